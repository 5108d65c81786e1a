-- The faces of a sound mesh, listed in order (order 4), are accepted, and give the same cyclic rings back. Assumes nothing.
use mathlib.Core.Path.{◌≡◌, refl, sym, ap, ◌∙◌, subst}
use mathlib.Core.Bool.{true, false, not}
use mathlib.Core.List.{List}
use mathlib.Core.Logic.{⊎_elim, ◌≢◌}
use Prim.Native.Nat.{ℕ, zero, suc, ◌+◌, ◌-◌, ◌≤◌, ◌<◌}
use native.Mathlib.Nat.{add-zero}
use native.Mathlib.Omega.{arith}
use lib.ListN.{length, get_or}
use borrow.Author.Tests.{eq-eqb, ne_eqb, le-ltb, lt-leb}
use Rattle.mesh.specs.Search.{bit, sum, first, some}
use Rattle.mesh.specs.Ring.{times, ◌∈◌, Distinct, next, prev, place}
use Rattle.mesh.specs.Mesh.{Mesh, Sound}
use Rattle.mesh.proofs.Lists.{lt_split, sum_same, sum_times}
use Rattle.mesh.proofs.Rings.{place_lt, get_or_place, place_get_or, next_in, prev_in}
use Rattle.mesh.proofs.RingsGoRound.{next_inner, next_of_last, next_of_prev}
use Rattle.mesh.proofs.First.{Clear, first_is, first_at, or_both, true_not_false}
use Rattle.off_rings.specs.Faces.{Face, bad_face, corner, before, behind, has_pair, steps, pair_in, pairs, faces_at, after, least, face_ring}
use Rattle.off_rings.specs.Faces.{back_in, closed, unfit_faces}
use Rattle.off_rings.specs.Listed.{face_at, begins, listed}
use Rattle.off_rings.proofs.Sums.{sum_some}
use Rattle.off_rings.proofs.Pairs.{Fine, fine_of, Corner, which, at_a, at_b, at_c, of_pair}
use Rattle.off_rings.proofs.Trails.{Loop, steps_suc, steps_none}
use Rattle.off_rings.proofs.Turns.{pairs_faces, after_face_lem, pairs_some, least_lt, ring_pairs, ring_next, entry_lt, twisted_open}
use Rattle.off_rings.proofs.Corners.{begun}
use Rattle.off_rings.proofs.Tallies.{tally_sum, every_at, every_listed}
use Rattle.off_rings.proofs.ListedPairs.{apart, listed_pairs}
use Rattle.off_rings.proofs.AcceptedFacesAreSound.{Taken}

-- ---- going round a ring of entries that differ

module _ (l : List ℕ) (o : Distinct l) where
  around : (i k : ℕ) → i + k < length l → steps (next l) (get_or l i 0) k ≡ get_or l (i + k) 0
  around i zero h = steps_none (next l) (get_or l i 0) ∙ ap (λ j. get_or l j 0) (sym (add-zero i))
  around i (suc k) h =
      let e : suc (i + k) ≡ i + suc k = omega arith in
      steps_suc (next l) (get_or l i 0) k ∙ ap (next l) (around i k (omega arith)) ∙ next_inner l o (i + k) (omega arith) ∙ ap (λ j. get_or l j 0) e

  over_end : (i k : ℕ) → i < length l → k < length l → steps (next l) (get_or l i 0) (length l - i + k) ≡ get_or l k 0
  over_end i zero h g =
      let j : ℕ = length l - i - 1 in
      let e : length l - i + 0 ≡ suc j = omega arith in
      ap (steps (next l) (get_or l i 0)) e ∙ steps_suc (next l) (get_or l i 0) j ∙ ap (next l) (around i j (omega arith)) ∙ next_of_last l o (i + j) (omega arith)
  over_end i (suc k) h g =
      let e : length l - i + suc k ≡ suc (length l - i + k) = omega arith in
      ap (steps (next l) (get_or l i 0)) e ∙ steps_suc (next l) (get_or l i 0) _ ∙ ap (next l) (over_end i k h (omega arith)) ∙ next_inner l o k g

  ring_loops : (x : ℕ) → x ∈ l → Loop (next l) x (length l)
  ring_loops x m = subst (λ y. Loop (next l) y (length l)) (get_or_place x l 0 m) (record { back = back; first = first' })
    where
      back : steps (next l) (get_or l (place x l) 0) (length l) ≡ get_or l (place x l) 0
      back =
          let e : length l ≡ length l - place x l + place x l = omega (arith, place_lt x l m) in
          ap (steps (next l) (get_or l (place x l) 0)) e ∙ over_end (place x l) (place x l) (place_lt x l m) (place_lt x l m)

      first' : (k : ℕ) → 0 < k → k < length l → steps (next l) (get_or l (place x l) 0) k ≢ get_or l (place x l) 0
      first' k p q e =
          ⊎_elim
          (λ h. differ (place x l + k) h.1 (omega arith) (sym (around (place x l) k h.1) ∙ e))
          (λ h.
          let j : ℕ = place x l + k - length l in
          let r : k ≡ length l - place x l + j = omega (arith, place_lt x l m) in
          differ j (omega (arith, place_lt x l m)) (omega (arith, place_lt x l m))
          (sym (over_end (place x l) j (place_lt x l m) (omega (arith, place_lt x l m)))
          ∙ ap (steps (next l) (get_or l (place x l) 0)) (sym r)
          ∙ e))
          (lt_split (place x l + k) (length l))
        where
          differ : (j : ℕ) → j < length l → j ≢ place x l → get_or l j 0 ≡ get_or l (place x l) 0 → ⊥
          differ j h d g = d (sym (place_get_or l j 0 o h) ∙ ap (λ y. place y l) g ∙ place_get_or l (place x l) 0 o (place_lt x l m))

-- ---- two walks that agree on a list

steps_same : (f g : ℕ → ℕ) (l : List ℕ) → ((y : ℕ) → y ∈ l → f y ≡ g y) → ((y : ℕ) → y ∈ l → g y ∈ l) → (x k : ℕ) → x ∈ l → steps f x k ≡ steps g x k
unfolding steps
steps_same f g l e s x zero m = refl
steps_same f g l e s x (suc k) m = ap (λ y. steps f y k) (e x m) ∙ steps_same f g l e s (g x) k (s x m)

-- ---- a face of a mesh

pub record FaceOf (M : Mesh) (f : Face) : Type 0 where
  pub fine : bad_face M.count f ≡ false
  pub turns : (v : ℕ) → corner v f ≡ true → (before v f ∈ M.ring v) × (next (M.ring v) (before v f) ≡ behind v f)

module _ (M : Mesh) (S : Sound M) where
  pub begun_face : (a b : ℕ) → a < M.count → begins M a b ≡ true → FaceOf M (face_at M a b)
  unfolding face_at bad_face
  begun_face a b h e =
      let k = begun M S a b e in
      let d = apart M S a b h k in
      let c : ℕ = prev (M.ring a) b in
      let o = (S.proper a h).distinct in
      let m : c ∈ M.ring a = prev_in (M.ring a) b k.there in
      let nx : next (M.ring a) c ≡ b = next_of_prev (M.ring a) o b k.there in
      let g = S.face a c h m in
      let at-b' : (a ∈ M.ring b) × (next (M.ring b) a ≡ c) = subst (λ y. (a ∈ M.ring y) × (next (M.ring y) a ≡ c)) nx g.0 in
      let at-c' : (b ∈ M.ring c) × (next (M.ring c) b ≡ a) = subst (λ y. (y ∈ M.ring c) × (next (M.ring c) y ≡ a)) nx g.1 in
      let f : Face = face_at M a b in
      let ab : a ≢ b = omega (arith, k.ab) in
      let bc : b ≢ c = d.1.1 in
      let ca : c ≢ a = omega (arith, k.ac) in
      record {
        fine =
            or_both _ _ (or_both _ _ (ne_eqb a b ab) (or_both _ _ (ne_eqb b c bc) (ne_eqb c a ca)))
            (or_both _ _ (lt-leb M.count a h) (or_both _ _ (lt-leb M.count b d.0) (lt-leb M.count c d.1.0)));
        turns = λ v q.
            ⊎_elim
            (λ p. absurd (true_not_false q p))
            (⊎_elim
            (λ p. turned v a c b (at_a f ab bc ca v p) p (m, nx))
            (⊎_elim (λ p. turned v b a c (at_b f ab bc ca v p) p at-b') (λ p. turned v c b a (at_c f ab bc ca v p) p at-c')))
            (which f ab bc ca v);
      }
    where
      turned : (v y x w : ℕ) → Corner v (face_at M a b) x w → v ≡ y → (x ∈ M.ring y) × (next (M.ring y) x ≡ w)
          → (before v (face_at M a b) ∈ M.ring v) × (next (M.ring v) (before v (face_at M a b)) ≡ behind v (face_at M a b))
      turned v y x w k e r = rw (k.from, k.to, e) r

  -- m faces: those that are listed
  module _ (d : Face) (m : ℕ) (face : ℕ → Face) (is : m ≡ length (listed M)) (lists : (i : ℕ) → i < m → face i ≡ get_or (listed M) i d) where
    every : (i : ℕ) → i < m → FaceOf M (face i)
    every i h = rw (lists i h) (every_at (FaceOf M) (listed M) d i (every_listed M (FaceOf M) begun_face) (omega arith))

    good : (i : ℕ) → i < m → Fine M.count (face i)
    good i h = fine_of M.count (face i) (every i h).fine

    pairs_times : (x v : ℕ) → x < M.count → v < M.count → pairs M.count m face x v ≡ times x (M.ring v)
    unfolding pairs
    pairs_times x v h g =
        sum_same _ (λ i. bit (has_pair x v (get_or (listed M) i d))) m (λ i k. ap (λ f. bit (has_pair x v f)) (lists i k))
        ∙ ap (sum (λ i. bit (has_pair x v (get_or (listed M) i d)))) is
        ∙ tally_sum (λ f. bit (has_pair x v f)) (listed M) d
        ∙ listed_pairs M S x v h g

    module _ (v : ℕ) (v< : v < M.count) where
      pub valence_back : faces_at M.count m face v ≡ length (M.ring v)
      valence_back =
          sym (pairs_faces M.count m face good v)
          ∙ sum_same _ _ M.count (λ x h. pairs_times x v h v<)
          ∙ sum_times M.count (M.ring v) (S.proper v v<).known

      pair_there : (x : ℕ) → x ∈ M.ring v → some (pair_in M.count m face x v) m ≡ true
      unfolding pairs
      pair_there x k = sum_some (pair_in M.count m face x v) m (subst (λ j. 0 < j) (sym (pairs_times x v ((S.proper v v<).known x k) v<)) k)

      after_back : (x : ℕ) → x ∈ M.ring v → after M.count m face v x ≡ next (M.ring v) x
      after_back x k =
          let s = after_face_lem M.count m face good v x (pair_there x k) in
          let i : ℕ = first (pair_in M.count m face x v) m in
          let p = of_pair x v (face i) s.1.0 in
          s.1.1 ∙ sym ((every i s.0).turns v p.0).1 ∙ ap (next (M.ring v)) (sym p.1)

      valence_some : 0 < faces_at M.count m face v
      valence_some = omega (arith, valence_back, S.three v v<)

      -- the walk begins at an entry of the ring
      least_there : least M.count m face v ∈ M.ring v
      unfolding least
      least_there =
          let l : least M.count m face v < M.count = least_lt M.count m face good v valence_some in
          let e = first_at (λ x. some (pair_in M.count m face x v) m) M.count l in
          subst (λ j. 0 < j) (pairs_times (least M.count m face v) v l v<) (pairs_some M.count m face good (least M.count m face v) v e)

      walk : (k : ℕ) → steps (after M.count m face v) (least M.count m face v) k ≡ steps (next (M.ring v)) (least M.count m face v) k
      walk k = steps_same (after M.count m face v) (next (M.ring v)) (M.ring v) after_back (next_in (M.ring v)) (least M.count m face v) k least_there

      closed_back : closed M.count m face v ≡ true
      unfolding closed back_in
      closed_back =
          let n : ℕ = M.count in
          let N : ℕ = faces_at n m face v in
          let L : Loop (next (M.ring v)) (least n m face v) (length (M.ring v)) =
          ring_loops (M.ring v) (S.proper v v<).distinct (least n m face v) least_there in
          let j : ℕ = N - 1 in
          let e : suc j ≡ N = omega (arith, valence_some) in
          let back : steps (after n m face v) (least n m face v) (suc j) ≡ least n m face v =
          walk (suc j) ∙ ap (steps (next (M.ring v)) (least n m face v)) (e ∙ valence_back) ∙ L.back in
          let clear : Clear (back_in n m face v) j =
          record {
            below = λ k h.
                ne_eqb (steps (after n m face v) (least n m face v) (suc k)) (least n m face v)
                (λ g. L.first (suc k) (omega arith) (omega (arith, valence_back, e)) (sym (walk (suc k)) ∙ g));
          } in
          let is : j ≡ first (back_in n m face v) N = first_is clear (omega arith) (eq-eqb _ _ back) in
          rw (ne_eqb N 0 (omega (arith, valence_some))) (eq-eqb (suc (first (back_in n m face v) N)) N (omega arith))

      -- the same cyclic ring: the same entries, and the same next of each
      pub times_back : (x : ℕ) → times x (face_ring M.count m face v) ≡ times x (M.ring v)
      times_back x =
          ⊎_elim
          (λ h. ring_pairs M.count m face good v closed_back x h.1 ∙ pairs_times x v h.1 v<)
          (λ h.
          none x h.1 (face_ring M.count m face v) (λ k. (entry_lt M.count m face good v closed_back x k).0)
          ∙ sym (none x h.1 (M.ring v) ((S.proper v v<).known x)))
          (lt_split x M.count)
        where
          none : (x : ℕ) → M.count ≤ x → (l : List ℕ) → (x ∈ l → x < M.count) → times x l ≡ 0
          none x h l f = ⊎_elim (λ k. absurd (omega (arith, f k.1))) (λ k. omega arith) (lt_split 0 (times x l))

      pub next_back : (x : ℕ) → x ∈ M.ring v → next (face_ring M.count m face v) x ≡ next (M.ring v) x
      next_back x k = ring_next M.count m face good v closed_back x (omega (arith, times_back x)) ∙ after_back x k

    -- the faces are accepted
    pub written_taken : Taken M.count m face
    unfolding unfit_faces
    written_taken = record {
      fine = λ i h. (every i h).fine;
      closes = λ v h. twisted_open M.count m face good v ∙ ap not (closed_back v h);
      fits = λ v h.
          or_both _ _ (le-ltb (faces_at M.count m face v) 3 (omega (arith, valence_back v h, S.three v h)))
          (le-ltb 32 (faces_at M.count m face v) (omega (arith, valence_back v h, (S.proper v h).short)));
    }
