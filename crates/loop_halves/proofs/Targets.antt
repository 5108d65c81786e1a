-- The table of rings with the whole next level, as a target: what it has in each row, and that a table that comes nearer to it keeps this level and the target. Assumes nothing.
use Prim.Native.Nat.{ℕ, ◌+◌, ◌-◌, ◌*◌, ◌≤◌, ◌<◌, min}
use mathlib.Core.Path.{◌≡◌, refl, sym, ap, subst, ◌∙◌}
use mathlib.Core.List.{List}
use mathlib.Core.Logic.{⊎_elim}
use native.Mathlib.Nat.{add-zero}
use native.Mathlib.Omega.{arith}
use lib.ListN.{length, get_or, take, drop, replicate, length-take, length-drop, get_or-replicate}
use lib.Seq.{get_or-take, get_or-drop, ext_get_or, get_or-append-add}
use Rattle.mesh.specs.Limits.{null_vertex}
use Rattle.mesh.specs.Mesh.{Mesh, Sound, edges}
use Rattle.mesh.specs.Ring.{◌∈◌, next, prev}
use Rattle.mesh.proofs.Lists.{lt_split}
use Rattle.loop_step.specs.Refine.{mid, new_ring, refine}
use Rattle.loop_step.proofs.Mids as E
use Rattle.loop_step.proofs.Refined.{old_valence}
use Rattle.rings.specs.Table.{Lent, lent, valence_at, put, gather, ring_of, rows, padded, ring_rows}
use Rattle.rings.proofs.Tables.{length_put, put_before, put_within, put_behind, gather_at}
use Rattle.rings.proofs.Rows.{rows_ring}
use Rattle.rings.proofs.Blocks.{padded_at}
use Rattle.loop_points.specs.Level.{Ready, HasOld, rings_up_to}
use Rattle.loop_points.proofs.Kept.{rows_kept}
use Rattle.loop_points.proofs.Mids.{ready_length, q_in, p_in, neighbour_lt, neighbour_ne, after_back, before_back}
use Rattle.loop_points.proofs.OldRings.{old_entry}
use Rattle.loop_points.proofs.NextLevel.{wide_ring, length_rings, old_ring_is, new_range, new_ring_is}
use Rattle.loop_halves.specs.Nearer.{Nearer, rings_next, number_at}

-- two tables that differ in a block at most are the same where the block is written
pub put_agree : {A : Type 0} (d : A) (s told : List A) (a : ℕ) (b : List A) → a + length b ≤ length told → length s ≡ length told
    → ((i : ℕ) → i < a → get_or s i d ≡ get_or told i d) → ((i : ℕ) → a + length b ≤ i → get_or s i d ≡ get_or told i d) → put s a b ≡ put told a b
put_agree d s told a b fits e before behind =
    let f : a + length b ≤ length s = omega arith in
    ext_get_or d (put s a b) (put told a b) (length_put s a b f ∙ e ∙ sym (length_put told a b fits)) (λ i k.
    ⊎_elim
    (λ q. put_before s a b f d i q.1 ∙ before i q.1 ∙ sym (put_before told a b fits d i q.1))
    (λ q.
    ⊎_elim
    (λ r. let n : a + (i - a) ≡ i = omega arith in subst (λ (j : ℕ). get_or (put s a b) j d ≡ get_or (put told a b) j d) n (put_within s a b f d (i - a) (omega arith) ∙ sym (put_within told a b fits d (i - a) (omega arith))))
    (λ r. put_behind s a b f d i r.1 ∙ behind i r.1 ∙ sym (put_behind told a b fits d i r.1))
    (lt_split i (a + length b)))
    (lt_split i a))

module _ {n : ℕ} {t : Lent} (r : Ready n t) where
  abbrev M : Mesh
  M = rows n t

  abbrev S : Sound (rows n t)
  S = r.sound

  block_fits : (m : ℕ) → m ≤ n + edges M → n * 32 + length (ring_rows (refine M).ring m) ≤ length t.rings
  block_fits m h = let e = length_rings M S m in let a = r.room.rings in omega arith

  -- ---- what the target has

  -- a row of the table with the first m vertices
  up_to_row : (m : ℕ) → m ≤ n + edges M → (y k : ℕ) → y < m → k < 32 → get_or (rings_up_to n m t) ((n + y) * 32 + k) 0 ≡ get_or (padded ((refine M).ring y)) k 0
  unfolding rings_up_to ring_rows
  up_to_row m b y k h l =
      let f : ℕ → List ℕ = λ x. padded ((refine M).ring x) in
      let s = length_rings M S m in
      let z : (n + y) * 32 + k ≡ n * 32 + (y * 32 + k) = omega arith in
      ap (λ (x : ℕ). get_or (put t.rings (n * 32) (gather f m)) x 0) z
      ∙ put_within t.rings (n * 32) (gather f m) (block_fits m b) 0 (y * 32 + k) (omega arith)
      ∙ gather_at f 32 (wide_ring M S m) m y k 0 h l

  pub target_length : length (rings_next n t) ≡ length t.rings
  unfolding rings_next rings_up_to
  target_length = length_put t.rings (n * 32) (ring_rows (refine M).ring (n + edges M)) (block_fits (n + edges M) (omega arith))

  pub target_before : (a : ℕ) → a < n * 32 → get_or (rings_next n t) a 0 ≡ get_or t.rings a 0
  unfolding rings_next rings_up_to
  target_before a h = put_before t.rings (n * 32) (ring_rows (refine M).ring (n + edges M)) (block_fits (n + edges M) (omega arith)) 0 a h

  pub target_behind : (a : ℕ) → (n + (n + edges M)) * 32 ≤ a → get_or (rings_next n t) a 0 ≡ get_or t.rings a 0
  unfolding rings_next rings_up_to
  target_behind a h =
      let e = length_rings M S (n + edges M) in
      put_behind t.rings (n * 32) (ring_rows (refine M).ring (n + edges M)) (block_fits (n + edges M) (omega arith)) 0 a (omega arith)

  target_row : (y k : ℕ) → y < n + edges M → k < 32 → get_or (rings_next n t) ((n + y) * 32 + k) 0 ≡ get_or (padded ((refine M).ring y)) k 0
  unfolding rings_next
  target_row y k h l = up_to_row (n + edges M) (omega arith) y k h l

  pub target_old : (u i : ℕ) → u < n → i < valence_at t u → get_or (rings_next n t) ((n + u) * 32 + i) 0 ≡ number_at n t u i
  unfolding rows
  target_old u i h l =
      let w : valence_at t u ≤ 32 = r.most u h in
      let c : length (ring_of t u) ≡ valence_at t u = ready_length r h in
      let q : M.ring u ≡ ring_of t u = rows_ring n t u h in
      let o : length ((refine M).ring u) ≡ length (M.ring u) = old_valence M S u h in
      target_row u i (omega arith) (omega arith)
      ∙ padded_at ((refine M).ring u) i (let z = ap length q in omega arith)
      ∙ ap (λ (told : List ℕ). get_or told i 0) (old_ring_is M S u h)
      ∙ old_entry r h i l

  -- a table that holds the old vertices has their rows right
  pub held_row : t.rings ≡ rings_up_to n n t → (y k : ℕ) → y < n → k < 32 → get_or t.rings ((n + y) * 32 + k) 0 ≡ get_or (rings_next n t) ((n + y) * 32 + k) 0
  held_row e y k h l =
      ap (λ (told : List ℕ). get_or told ((n + y) * 32 + k) 0) e ∙ up_to_row n (omega arith) y k h l ∙ sym (target_row y k (omega arith) l)

  new_row : (p q k : ℕ) → p < q → p < n → q ∈ M.ring p → k < 32 → get_or (rings_next n t) ((n + mid M p q) * 32 + k) 0 ≡ get_or (padded (new_ring M p q)) k 0
  unfolding rows
  new_row p q k low l m h = target_row (mid M p q) k (new_range M S p q low l m).1 h ∙ ap (λ (told : List ℕ). get_or (padded told) k 0) (new_ring_is M S p q low l m)

  unused_places : (p q k : ℕ) → 5 < k → k < 32 → get_or (padded (new_ring M p q)) k 0 ≡ null_vertex
  unfolding padded new_ring
  unused_places p q k h l =
      let e : k ≡ 6 + (k - 6) = omega arith in
      ap (λ (i : ℕ). get_or (padded (new_ring M p q)) i 0) e ∙ get_or-append-add (new_ring M p q) (replicate 26 null_vertex) (k - 6) 0 ∙ get_or-replicate 26 (k - 6) null_vertex 0 (omega arith)

  -- the half of a new vertex's row that p decides, where q is the neighbour at place i of p
  module _ (p i : ℕ) (h : p < n) (l : i < valence_at t p) (q : ℕ) (e : q ≡ get_or (ring_of t p) i 0) where
    abbrev at : ℕ
    at = (n + mid M p q) * 32

    number_here : mid M p q ≡ number_at n t p i
    number_here = ap (mid M p) e

    module _ (low : p < q) where
      pub low_p : p ≡ get_or (rings_next n t) at 0
      unfolding padded new_ring
      low_p = sym (ap (λ (x : ℕ). get_or (rings_next n t) x 0) (sym (add-zero at)) ∙ new_row p q 0 low h (q_in r p i h l q e) (omega arith))

      pub low_before : mid M p (prev (ring_of t p) q) ≡ get_or (rings_next n t) (at + 1) 0
      unfolding padded new_ring
      low_before = sym (new_row p q 1 low h (q_in r p i h l q e) (omega arith) ∙ ap (λ (told : List ℕ). mid M p (prev told q)) (rows_ring n t p h))

      pub low_after : mid M p (next (ring_of t p) q) ≡ get_or (rings_next n t) (at + 5) 0
      unfolding padded new_ring
      low_after = sym (new_row p q 5 low h (q_in r p i h l q e) (omega arith) ∙ ap (λ (told : List ℕ). mid M p (next told q)) (rows_ring n t p h))

      pub low_unused : (k : ℕ) → 5 < k → k < 32 → get_or (rings_next n t) (at + k) 0 ≡ null_vertex
      low_unused k a b = new_row p q k low h (q_in r p i h l q e) b ∙ unused_places p q k a b

    module _ (high : q ≤ p) where
      strict : q < p
      strict = let d = neighbour_ne r p i h l q e in omega arith

      back_row : (k : ℕ) → k < 32 → get_or (rings_next n t) (at + k) 0 ≡ get_or (padded (new_ring M q p)) k 0
      back_row k b =
          ap (λ (x : ℕ). get_or (rings_next n t) ((n + x) * 32 + k) 0) (E.mid_sym M S.proper S.mutual' p q)
          ∙ new_row q p k strict (neighbour_lt r p i h l q e) (p_in r p i h l q e) b

      pub high_p : p ≡ get_or (rings_next n t) (at + 3) 0
      unfolding padded new_ring
      high_p = sym (back_row 3 (omega arith))

      pub high_before : mid M p (prev (ring_of t p) q) ≡ get_or (rings_next n t) (at + 4) 0
      unfolding padded new_ring
      high_before = sym (back_row 4 (omega arith) ∙ ap (mid M p) (sym (after_back r p i h l q e) ∙ ap (λ (told : List ℕ). prev told q) (rows_ring n t p h)))

      pub high_after : mid M p (next (ring_of t p) q) ≡ get_or (rings_next n t) (at + 2) 0
      unfolding padded new_ring
      high_after = sym (back_row 2 (omega arith) ∙ ap (mid M p) (before_back r p i h l q e ∙ ap (λ (told : List ℕ). next told q) (rows_ring n t p h)))

  -- ---- what a table that comes nearer keeps

  module _ {new : List ℕ} (f : Nearer 0 (rings_next n t) t.rings new) where
    kept_before : (a : ℕ) → a < n * 32 → get_or new a 0 ≡ get_or t.rings a 0
    kept_before a h = f.keeps a (sym (target_before a h)) ∙ target_before a h

    pub kept_ring : (v : ℕ) → v < n → ring_of (lent t.valences new) v ≡ ring_of t v
    unfolding ring_of
    kept_ring v l =
        let m : ℕ = valence_at t v in
        let w : m ≤ 32 = r.most v l in
        let e : length new ≡ length t.rings = f.long in
        let long : (told : List ℕ) → length (take m (drop (v * 32) told)) ≡ min m (length told - v * 32) = λ told. simp (length-take, length-drop) in
        ext_get_or 0 (take m (drop (v * 32) new)) (take m (drop (v * 32) t.rings)) (long new ∙ rw e (sym (long t.rings))) (λ i b.
        let s : i < m = omega (arith, long new) in
        get_or-take m (drop (v * 32) new) i 0 s ∙ get_or-drop (v * 32) new i 0 ∙ kept_before (v * 32 + i) (omega arith)
        ∙ sym (get_or-take m (drop (v * 32) t.rings) i 0 s ∙ get_or-drop (v * 32) t.rings i 0))

    pub kept_rows : rows n (lent t.valences new) ≡ rows n t
    kept_rows = rows_kept n t (lent t.valences new) (λ v l. refl) kept_ring

    pub kept_ready : Ready n (lent t.valences new)
    kept_ready = record {
      room = rw kept_rows (record { valences = r.room.valences; rings = rw f.long r.room.rings });
      most = r.most;
      sound = rw kept_rows r.sound;
      fits = rw kept_rows r.fits;
    }

    pub kept_number : (u i : ℕ) → u < n → number_at n (lent t.valences new) u i ≡ number_at n t u i
    kept_number u i l = rw (kept_rows, kept_ring u l)

    pub kept_old : HasOld n t n → HasOld n (lent t.valences new) n
    kept_old o = record {
      place = λ u l i m. f.keeps ((n + u) * 32 + i) (o.place u l i m ∙ sym (target_old u i l m)) ∙ target_old u i l m ∙ sym (kept_number u i l);
    }

    pub kept_target : rings_next n (lent t.valences new) ≡ rings_next n t
    unfolding rings_next rings_up_to
    kept_target =
        let e = length_rings M S (n + edges M) in
        ap (λ (N : Mesh). put new (n * 32) (ring_rows (refine N).ring (n + edges N))) kept_rows
        ∙ put_agree 0 new t.rings (n * 32) (ring_rows (refine M).ring (n + edges M)) (block_fits (n + edges M) (omega arith)) f.long kept_before
        (λ i b. f.keeps i (sym (target_behind i (omega arith))) ∙ target_behind i (omega arith))
