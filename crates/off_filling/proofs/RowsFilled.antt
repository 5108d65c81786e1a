-- Valences and rows of a text's vertices, written one after the other. Assumes nothing.
use mathlib.Core.Path.{◌≡◌, refl, sym, ap, subst, ◌∙◌}
use mathlib.Core.List.{List, [], ◌∷◌}
use Prim.Native.Nat.{ℕ, ◌+◌, ◌*◌, ◌≤◌, ◌<◌}
use native.Mathlib.Nat.{add-zero, le_antisymm}
use native.Mathlib.Omega.{arith}
use lib.ListN.{length, get_or, set, take, drop}
use Rattle.rings.specs.Table.{Lent, lent, padded}
use Rattle.rings.proofs.Tables.{length_padded}
use Rattle.file_format.specs.Blocks.{Put, gather_from}
use Rattle.file_format.proofs.Gathered.{length_from, length_rows_below}
use Rattle.file_format.proofs.Blocks.{put_one, put_length, put_is, from_none, from_next}
use Rattle.off_rings.specs.Faces.{faces_at, face_ring, after, least}
use Rattle.off_rings.specs.Fans.{befores, behinds, fan_ring}
use Rattle.off_rings.proofs.Trails.{trail_length}
use Rattle.off_rings.proofs.FansOfFaces.{ring_fan}
use Rattle.off_text.specs.Layout.{text_count, text_faces, text_face}
use Rattle.off_text.specs.ReadOff.{text_ring}
use Rattle.off_fans.specs.Rows.{Room}
use Rattle.off_gather.specs.Gathering.{Gathered}
use Rattle.off_gather.proofs.Rows.{row_count, from_row, to_row}
use Rattle.off_filling.specs.Filling.{Narrow, Fillable, valence_row, ring_row, Filled}

module _ (s : List ℕ) where
  -- a ring has as many entries as its vertex has faces
  ring_length : (v : ℕ) → length (text_ring s v) ≡ faces_at (text_count s) (text_faces s) (text_face s) v
  unfolding text_ring face_ring
  ring_length v =
      trail_length
      (after (text_count s) (text_faces s) (text_face s) v)
      (least (text_count s) (text_faces s) (text_face s) v)
      (faces_at (text_count s) (text_faces s) (text_face s) v)

  -- the ring from the two lists of its vertex
  ring_is : (v count : ℕ) (from to : List ℕ) → count ≡ text_count s → from ≡ befores (text_face s) v (text_faces s) → to ≡ behinds (text_face s) v (text_faces s)
      → fan_ring count from to ≡ text_ring s v
  unfolding text_ring
  ring_is v count from to c f z = rw (c, f, z) (sym (ring_fan (text_count s) (text_faces s) (text_face s) v))

  -- the rows of some vertices that have at most 32 faces each
  rows_length_lem : (v many : ℕ) → ((j : ℕ) → j < many → faces_at (text_count s) (text_faces s) (text_face s) (v + j) ≤ 32)
      → length (gather_from (ring_row s) v many) ≡ many * 32
  unfolding gather_from
  rows_length_lem v many h =
      length_rows_below (λ j. ring_row s (v + j)) 32 many
      (λ j l. length_padded (text_ring s (v + j)) (omega (arith, ring_length (v + j), h j l)))

  pub filled_none : {v : ℕ} {t : Lent} → v ≤ length t.valences → v * 32 ≤ length t.rings → Filled s v 0 t t
  filled_none {v} a b = record { valences = from_none (valence_row s) v a; rings = from_none (ring_row s) v b }

  filled_one : {v : ℕ} {t t' : Lent} → Put t.valences v (valence_row s v) t'.valences → Put t.rings (v * 32) (ring_row s v) t'.rings → Filled s v 1 t t'
  unfolding gather_from
  filled_one {v} a b = record {
    valences = put_is (ap (valence_row s) (sym (add-zero v))) a;
    rings = put_is (ap (ring_row s) (sym (add-zero v))) b;
  }

  -- some vertices, and then others behind them
  pub filled_then : {v a b count : ℕ} {t t' t'' : Lent} → Fillable s count t → v + a ≤ count → Filled s v a t t'
      → Filled s (v + a) b t' t'' → Filled s v (a + b) t t''
  filled_then {v} {a} {b} {count} f h p q = record {
    valences = from_next (valence_row s) v a b p.valences q.valences (omega (arith, length_from (valence_row s) 1 (λ i. refl) v a));
    rings = from_next (ring_row s) v a b p.rings q.rings (omega (arith, rows_length_lem v a (λ j l. f.most (v + j) (omega arith))));
  }

  module _ {count first rows width j : ℕ} {counts froms tos : List ℕ} {t₀ t : Lent} (f : Fillable s count t₀) (h : first + rows ≤ count)
      (r : Room rows width counts froms tos) (g : Gathered s first rows width (text_faces s) counts froms tos) (w : Narrow width rows counts)
      (l : j < rows) (p : Filled s first j t₀ t) where
    pub valence_small : get_or counts j 0 ≤ 32
    valence_small = omega (arith, row_count g l, f.most (first + j) (omega arith), f.count_is)

    pub valence_there : first + j < length t.valences
    valence_there = omega (arith, put_length p.valences, f.room.valences)

    pub filled_row : {from to rs' : List ℕ} → from ≡ take (get_or counts j 0) (drop (j * width) froms) → to ≡ take (get_or counts j 0) (drop (j * width) tos)
        → Put t.rings ((first + j) * 32) (padded (fan_ring count from to)) rs' → Filled s first (j + 1) t₀ (lent (set t.valences (first + j) (get_or counts j 0)) rs')
    filled_row {from} {to} {rs'} a b q =
        let ring : fan_ring count from to ≡ text_ring s (first + j) =
        ring_is (first + j) count from to f.count_is (a ∙ from_row g l r (w.narrow j l)) (b ∙ to_row g l r (w.narrow j l)) in
        filled_then f (omega arith) p
        (filled_one (put_is (ap (λ k. k ∷ []) (row_count g l ∙ sym (ring_length (first + j)))) (put_one valence_there)) (put_is (ap padded ring) q))

  pub filled_all : {v j k : ℕ} {t t' : Lent} → j ≤ k → k ≤ j → Filled s v j t t' → Filled s v k t t'
  filled_all {v} {j} {k} {t} {t'} a b p = subst (λ i. Filled s v i t t') (le_antisymm a b) p
