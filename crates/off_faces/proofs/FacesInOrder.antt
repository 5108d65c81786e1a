-- The faces of one vertex, met by ascending second corner; and the faces of all vertices, one after the other. Assumes nothing.
use Prim.Native.Nat.{ℕ, zero, suc, ◌≤◌, ◌<◌}
use mathlib.Core.Path.{◌≡◌, refl, sym, ap, ◌∙◌}
use mathlib.Core.Bool.{Bool, true, false, cond, ◌&&◌}
use mathlib.Core.List.{List, [], ◌∷◌, ◌++◌, append-nil, append_assoc}
use mathlib.Core.Logic.{⊎_elim}
use native.Mathlib.Nat.{eq-or-lt_of_le}
use native.Mathlib.Omega.{arith}
use lib.Dec.{ltb}
use lib.ListN.{length, get_or, length-append}
use borrow.Author.Tests.{lt-ltb, le-ltb}
use Rattle.mesh.specs.Ring.{times, ◌∈◌, Distinct, has, prev, place_before}
use Rattle.mesh.specs.Numbering.{below}
use Rattle.mesh.specs.Mesh.{Mesh, over}
use Rattle.mesh.proofs.Lists.{lt_split, below_suc, climbs}
use Rattle.mesh.proofs.Edges.{over_in}
use Rattle.mesh.proofs.Rings.{get_or_in, place_get_or, prev_at}
use Rattle.mesh.proofs.Places.{in_has}
use Rattle.off_rings.specs.Faces.{Face}
use Rattle.off_rings.specs.Listed.{face_at, begins, faces_from, faces_below}
use Rattle.off_text.specs.WriteOff.{face_line, face_lines}
use Rattle.off_faces.specs.Facing.{faces_of}

-- ---- lines

pub lines_append : (s t : List Face) → face_lines (s ++ t) ≡ face_lines s ++ face_lines t
unfolding face_lines
lines_append [] t = refl
lines_append (f ∷ s) t = ap (λ l. face_line f ++ l) (lines_append s t) ∙ sym (append_assoc (face_line f) (face_lines s) (face_lines t))

more_lines : (s t : List Face) → length (face_lines s) ≤ length (face_lines (s ++ t))
more_lines s t = omega (arith, ap length (lines_append s t), length-append (face_lines s) (face_lines t))

-- ---- one vertex

module _ (ring : List ℕ) (a : ℕ) where
  -- the second corner b makes a face
  abbrev makes : ℕ → Bool
  makes b = has b ring && (ltb a b && ltb a (prev ring b))

  -- corners that make none
  idle : (j k : ℕ) → j ≤ k → ((i : ℕ) → j ≤ i → i < k → makes i ≡ false) → faces_of ring a k ≡ faces_of ring a j
  unfolding faces_of
  idle j zero h none = let e : 0 ≡ j = omega arith in ap (faces_of ring a) e
  idle j (suc k) h none =
      ⊎_elim
      (λ e. ap (faces_of ring a) (sym e))
      (λ l.
      ap (λ t. faces_of ring a k ++ cond t (record { a = a; b = k; c = prev ring k } ∷ []) []) (none k (omega arith) (omega arith))
      ∙ append-nil (faces_of ring a k)
      ∙ idle j k (omega arith) (λ i p q. none i p (omega arith)))
      (eq-or-lt_of_le h)

  absent : (i : ℕ) → times i ring ≡ 0 → makes i ≡ false
  unfolding has
  absent i e = rw (le-ltb 0 (times i ring) (omega arith))

  too_low : (i : ℕ) → i ≤ a → makes i ≡ false
  too_low i h = rw (le-ltb a i h) (and_false (has i ring))
    where
      and_false : (t : Bool) → t && false ≡ false
      and_false true = refl
      and_false false = refl

  -- up to a itself there are none
  pub faces_none : faces_of ring a (suc a) ≡ []
  unfolding faces_of
  faces_none = idle 0 (suc a) (omega arith) (λ i p q. too_low i (omega arith))

  -- between b and the least entry over b there are none
  pub faces_between : (b q : ℕ) → b < q → below q (over b ring) ≡ 0 → faces_of ring a q ≡ faces_of ring a (suc b)
  faces_between b q h z = idle (suc b) q h (λ i p l. absent i (clear i p l))
    where
      clear : (i : ℕ) → suc b ≤ i → i < q → times i ring ≡ 0
      clear i p l =
          let up : (j : ℕ) → below j (over b ring) ≤ below (suc j) (over b ring) = λ j. omega (arith, below_suc j (over b ring)) in
          omega (arith, climbs (λ j. below j (over b ring)) up (suc i) q l, below_suc i (over b ring), over_in i b ring p)

  -- behind the last entry there are none
  pub faces_behind : (n b : ℕ) → ((u : ℕ) → u ∈ ring → u < n) → length (over b ring) ≡ 0 → faces_of ring a n ≡ faces_of ring a (suc b)
  faces_behind n b known z =
      ⊎_elim
      (λ h. faces_between b n h.1 (empty n (over b ring) z))
      (λ h. sym (idle n (suc b) (omega arith) (λ i p q. absent i (past i p))))
      (lt_split b n)
    where
      empty : (k : ℕ) (l : List ℕ) → length l ≡ 0 → below k l ≡ 0
      empty k [] e = refl
      empty k (x ∷ l) e = absurd (omega arith)

      past : (i : ℕ) → n ≤ i → times i ring ≡ 0
      past i h = ⊎_elim (λ k. absurd (omega (arith, known i k.1))) (λ k. omega arith) (lt_split 0 (times i ring))

  -- the entry at place i brings its face, or nothing
  module _ (once : Distinct ring) (i : ℕ) (h : i < length ring) (up : a < get_or ring i 0) where
    behind_entry : prev ring (get_or ring i 0) ≡ get_or ring (place_before (length ring) i) 0
    behind_entry = prev_at ring (get_or ring i 0) ∙ ap (λ k. get_or ring (place_before (length ring) k) 0) (place_get_or ring i 0 once h)

    pub faces_entry : (c : ℕ) → c ≡ get_or ring (place_before (length ring) i) 0
        → faces_of ring a (suc (get_or ring i 0)) ≡ faces_of ring a (get_or ring i 0) ++ cond (ltb a c) (record { a = a; b = get_or ring i 0; c = c } ∷ []) []
    unfolding faces_of
    faces_entry c e =
        rw (in_has (get_or ring i 0) ring (get_or_in ring i 0 h), lt-ltb a (get_or ring i 0) up, behind_entry ∙ sym e)

  pub faces_longer : (j k : ℕ) → j ≤ k → length (face_lines (faces_of ring a j)) ≤ length (face_lines (faces_of ring a k))
  unfolding faces_of
  faces_longer j k h =
      climbs (λ i. length (face_lines (faces_of ring a i)))
      (λ i. more_lines (faces_of ring a i) (cond (makes i) (record { a = a; b = i; c = prev ring i } ∷ []) [])) j k h

-- ---- all vertices

module _ (M : Mesh) where
  pub faces_by_ring : (a k : ℕ) → faces_from M a k ≡ faces_of (M.ring a) a k
  unfolding faces_from faces_of begins face_at
  faces_by_ring a zero = refl
  faces_by_ring a (suc k) =
      ap (λ l. l ++ cond (makes (M.ring a) a k) (record { a = a; b = k; c = prev (M.ring a) k } ∷ []) []) (faces_by_ring a k)

  pub vertices_longer : (j k : ℕ) → j ≤ k → length (face_lines (faces_below M j)) ≤ length (face_lines (faces_below M k))
  unfolding faces_below
  vertices_longer j k h = climbs (λ i. length (face_lines (faces_below M i))) (λ i. more_lines (faces_below M i) (faces_from M i M.count)) j k h
