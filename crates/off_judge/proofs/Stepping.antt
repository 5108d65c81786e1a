-- From block to block: what is known of the vertices passed, and what is known of all at the end. Assumes nothing.
use mathlib.Core.Path.{◌≡◌, refl, sym, ap, ◌∙◌, subst}
use mathlib.Core.Bool.{true, false, ◌||◌}
use mathlib.Core.List.{List}
use mathlib.Core.Logic.{⊎_elim}
use Prim.Native.Nat.{ℕ, ◌+◌, ◌-◌, ◌≤◌, ◌<◌}
use native.Mathlib.Nat.{eq-or-lt_of_le}
use native.Mathlib.Omega.{arith}
use lib.Dec.{ltb}
use lib.ListN.{length, get_or}
use Rattle.mesh.specs.Limits.{least_valence, most_valence}
use Rattle.mesh.specs.Search.{first as least}
use Rattle.mesh.proofs.Lists.{lt_split}
use Rattle.mesh.proofs.First.{Clear, first_le, first_clear, first_at, first_is, first_end, or_false}
use Rattle.off_rings.specs.Faces.{faces_at, unfit_faces}
use Rattle.off_text.specs.Layout.{text_count, text_faces, text_face}
use Rattle.off_gather.specs.Gathering.{FaceLines, Gathered, SameRoom}
use Rattle.off_gather.proofs.Rows.{row_count, gathered_all}
use Rattle.off_blocks.specs.Blocks.{places, Width, Block, Tables, ahead}
use Rattle.off_judge.specs.Judging.{unfit_at, unfit_from, open_at, unfit, stops, Sofar, Stepped, Stopped, Judged}
use Rattle.off_judge.proofs.Stops.{open_narrow, open_wide}
use Rattle.off_judge.proofs.Faulty.{unfit_known, unfit_found, unfit_none}

-- the rows passed are within the counts, and their vertices below the text's
pub rows_passed : (s : List ℕ) {at width rows j count : ℕ} {c f t c' f' t' : List ℕ} → Block width (count - at) rows → Tables c f t → SameRoom c f t c' f' t'
    → at < count → j ≡ least (stops s width at) rows → (j ≤ length c') × (at + j ≤ count)
rows_passed s {at} {width} {rows} b t k h e =
    let l = first_le (stops s width at) rows in (omega (arith, b.few, t.counts_long, k.counts_same), omega (arith, b.within))

-- ---- one block

-- what holds below a place and for so many behind it holds below both
below_both : (P : ℕ → Type 0) (at j : ℕ) → ((v : ℕ) → v < at → P v) → ((i : ℕ) → i < j → P (at + i)) → (v : ℕ) → v < at + j → P v
below_both P at j a b v h =
    ⊎_elim
    (λ q. a v q.1)
    (λ q. let e : at + (v - at) ≡ v = omega arith in subst P e (b (v - at) (omega arith)))
    (lt_split v at)

module _ {s : List ℕ} {at width known rows j : ℕ} {counts froms tos : List ℕ} (g : Gathered s at rows width (text_faces s) counts froms tos)
    (k : Sofar s at width known) (e : j ≡ least (stops s width at) rows) (w : at + rows ≤ text_count s) where
  row_fit : (i : ℕ) → i < j → unfit s (at + i) ≡ unfit_at counts i
  unfolding unfit_faces
  row_fit i h = ap (λ n. ltb n least_valence || ltb most_valence n) (sym (row_count g (omega (arith, first_le (stops s width at) rows))))

  passed : (i : ℕ) → i < j → open_at s (at + i) ≡ false
  passed i h =
      (or_false (ltb width (faces_at (text_count s) (text_faces s) (text_face s) (at + i))) (open_at s (at + i))
      ((first_clear (stops s width at) rows).below i (omega arith))).1

  -- the vertices passed, with the first unfit one
  module _ {width' : ℕ} (wide : Width width') where
    abbrev Now : ℕ → Type 0
    Now f = Sofar s (at + j) width' f

    sofar_with : (f : ℕ) → ((v : ℕ) → v < at + j → v < f → unfit s v ≡ false)
        → (f < text_count s → f < at + j) → (f < text_count s → unfit s f ≡ true) → f ≤ text_count s → Now f
    sofar_with f fit low is within = record {
      wide = wide;
      within = omega (arith, first_le (stops s width at) rows);
      closed_below = below_both (λ v. open_at s v ≡ false) at j k.closed_below passed;
      fit_below = fit;
      fault_below = low;
      fault_is = is;
      fault_within = within;
    }

    sofar_known : known < text_count s → Now known
    sofar_known h =
        sofar_with known
        (λ v a b. k.fit_below v (omega (arith, k.fault_below h)) b)
        (λ h'. omega (arith, k.fault_below h))
        k.fault_is
        k.fault_within

    module _ (none : text_count s ≤ known) where
      fit_passed : (i : ℕ) → i ≤ j → Clear (unfit_at counts) i → (v : ℕ) → v < at + i → unfit s v ≡ false
      fit_passed i h c =
          below_both (λ v. unfit s v ≡ false) at i
          (λ v a. k.fit_below v a (omega (arith, k.within)))
          (λ i' a. row_fit i' (omega arith) ∙ c.below i' a)

      sofar_found : least (unfit_at counts) j < j → Now (at + least (unfit_at counts) j)
      sofar_found h =
          sofar_with (at + least (unfit_at counts) j)
          (λ v a b. fit_passed (least (unfit_at counts) j) (omega arith) (first_clear (unfit_at counts) j) v b)
          (λ h'. omega arith)
          (λ h'. row_fit (least (unfit_at counts) j) h ∙ first_at (unfit_at counts) j h)
          (omega (arith, first_le (stops s width at) rows))

      sofar_none : least (unfit_at counts) j ≡ j → Now (text_count s)
      sofar_none h =
          sofar_with (text_count s)
          (λ v a b. fit_passed j (omega arith) (subst (Clear (unfit_at counts)) h (first_clear (unfit_at counts) j)) v a)
          (λ h'. absurd (omega arith))
          (λ h'. absurd (omega arith))
          (omega arith)

    sofar_more : (fault count : ℕ) → count ≡ text_count s → fault ≡ unfit_from counts at j known count → Now fault
    sofar_more fault count q f =
        subst Now (sym (f ∙ ap (unfit_from counts at j known) q))
        (⊎_elim
        (λ h. subst Now (unfit_known counts at j known (text_count s) h.1) (sofar_known h.1))
        (λ h.
        ⊎_elim
        (λ d. subst Now (unfit_none counts at j known (text_count s) h.1 refl (omega arith)) (sofar_none h.1 d))
        (λ d. subst Now (unfit_found counts at j known (text_count s) h.1 refl d) (sofar_found h.1 d))
        (eq-or-lt_of_le (first_le (unfit_at counts) j)))
        (lt_split known (text_count s)))

-- the vertex reached does not close
pub judged_open : {s : List ℕ} {at width fault : ℕ} → Sofar s at width fault → at < text_count s → open_at s at ≡ true → Judged s at fault
judged_open k h o = record {
  open_is = first_is (record { below = k.closed_below }) h o;
  fault_is = λ e. absurd (omega arith);
}

-- what is known behind a block that was gathered and judged up to row j
module _ {s : List ℕ} {faces from at width known rows j count fault : ℕ} {counts froms tos : List ℕ} (lines : FaceLines s faces from)
    (all : Gathered s at rows width faces counts froms tos) (k : Sofar s at width known) (b : Block width (count - at) rows) (q : count ≡ text_count s)
    (h : at < count) (e : j ≡ least (stops s width at) rows) (f : fault ≡ unfit_from counts at j known count) where
  now_known : {width' : ℕ} → Width width' → Sofar s (at + j) width' fault
  now_known wide = sofar_more (gathered_all lines all) k e (omega (arith, b.within)) wide fault count q f

  -- every row was passed
  pub stepped_past : {width' : ℕ} → rows ≤ j → Width width' → Stepped s at width (at + j) width' fault
  unfolding ahead
  stepped_past l wide = record { sofar = now_known wide; nearer = omega (arith, b.some (omega arith), b.within, wide.low) }

  -- the next vertex has more faces than the rows were wide
  pub stepped_wider : {width' : ℕ} → j < rows → Width width' → width < width' → Stepped s at width (at + j) width' fault
  unfolding ahead
  stepped_wider l wide more = record { sofar = now_known wide; nearer = omega (arith, b.within, wide.high) }

  stopped_at : j < rows → open_at s (at + j) ≡ true → Stopped s (at + j) width fault
  stopped_at l o = record { sofar = now_known k.wide; below = omega (arith, b.within); opens_at = o }

  -- the next vertex does not close, in a row that is wide enough
  pub stepped_narrow : j < rows → get_or counts j 0 ≤ width → Stopped s (at + j) width fault
  stepped_narrow l n = stopped_at l (open_narrow (gathered_all lines all) l e n)

  -- or where rows cannot be wider
  pub stepped_wide : j < rows → places ≤ width → width < get_or counts j 0 → Stopped s (at + j) width fault
  stepped_wide l w n = stopped_at l (open_wide (gathered_all lines all) l lines w n)

-- ---- all blocks

-- every vertex closes
pub judged_all : {s : List ℕ} {at width fault : ℕ} → Sofar s at width fault → {count : ℕ} → count ≡ text_count s → count ≤ at → Judged s count fault
judged_all {s} {at} {width} {fault} k {count} e h = record {
  open_is = first_end {i = count} (record { below = λ v a. k.closed_below v (omega arith) }) (omega arith) (omega arith);
  fault_is = λ t. ⊎_elim
      (λ q. first_end fit (omega arith) (omega arith))
      (λ q. first_is fit q (k.fault_is q))
      (eq-or-lt_of_le k.fault_within);
}
  where
    fit : Clear (unfit s) fault
    fit = record { below = λ v a. k.fit_below v (omega (arith, k.fault_within)) a }
