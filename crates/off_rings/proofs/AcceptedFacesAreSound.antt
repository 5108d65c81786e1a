-- Faces that are accepted (order 4) make a sound mesh: where no face is bad, the faces of each vertex close into one ring and each valence is 3 to 32.
-- Assumes nothing.
use mathlib.Core.Path.{◌≡◌, refl, sym, ◌∙◌, subst}
use mathlib.Core.Bool.{true, false}
use mathlib.Core.Logic.{⊎_elim}
use Prim.Native.Nat.{ℕ, ◌≤◌, ◌<◌}
use native.Mathlib.Omega.{arith}
use lib.Dec.{ltb}
use lib.ListN.{get_or}
use borrow.Author.Tests.{lt-ltb, ltb-false, not-false}
use Rattle.mesh.specs.Ring.{◌∈◌, next, Follows}
use Rattle.mesh.specs.Mesh.{Proper, Sound}
use Rattle.mesh.specs.Search.{some}
use Rattle.mesh.proofs.Lists.{lt_split}
use Rattle.mesh.proofs.First.{or_false, first_clear, true_not_false}
use Rattle.mesh.proofs.Rings.{next_in}
use Rattle.off_rings.specs.Faces.{Face, bad_face, before, behind, pair_in, after, least, closed, twisted, unfit_faces, faces_at, face_ring, face_mesh}
use Rattle.off_rings.proofs.Pairs.{Fine, fine_of, Corner, round_of, behind_lt}
use Rattle.off_rings.proofs.Turns.{ring_length, ring_distinct, entry_lt, on_ring, entry_pair, entry_face, twisted_open}
use Rattle.off_rings.proofs.Trails.{trail_at, steps_none}

module _ (n m : ℕ) (face : ℕ → Face) where
  -- what reading has judged before it writes
  pub record Taken : Type 0 where
    pub fine : (i : ℕ) → i < m → bad_face n (face i) ≡ false
    pub closes : (v : ℕ) → v < n → twisted n m face v ≡ false
    pub fits : (v : ℕ) → v < n → unfit_faces n m face v ≡ false

  module _ (k : Taken) where
    good : (i : ℕ) → i < m → Fine n (face i)
    good i h = fine_of n (face i) (k.fine i h)

    shut : (v : ℕ) → v < n → closed n m face v ≡ true
    shut v h = not-false _ (sym (twisted_open n m face good v) ∙ k.closes v h)

    -- a face at v, seen from its other corners
    round : (v : ℕ) → v < n → (u : ℕ) → u ∈ face_ring n m face v
        → (next (face_ring n m face v) u < n)
        × (Follows (face_ring n m face (next (face_ring n m face v) u)) v u
        × Follows (face_ring n m face u) (next (face_ring n m face v) u) v)
    round v h u p =
        let e = entry_face n m face good v (shut v h) u p in
        let i : ℕ = e.0 in
        let f : Face = face i in
        let r = round_of n v f (good i e.1.0) e.1.1.0 in
        let w : ℕ = behind v f in
        let w< : w < n = behind_lt n v f (good i e.1.0) e.1.1.0 in
        let a : Follows (face_ring n m face w) v (before v f) = at w v (before v f) i e.1.0 w< r.at_w in
        let u< : before v f < n = subst (λ x. x < n) e.1.1.1.0 (entry_lt n m face good v (shut v h) u p).0 in
        let b : Follows (face_ring n m face (before v f)) w v = at (before v f) w v i e.1.0 u< r.at_x in
        same u (before v f) (next (face_ring n m face v) u) w e.1.1.1.0 e.1.1.1.1 (w<, (a, b))
      where
        same : (u u' w w' : ℕ) → u ≡ u' → w ≡ w'
            → (w' < n) × (Follows (face_ring n m face w') v u' × Follows (face_ring n m face u') w' v)
            → (w < n) × (Follows (face_ring n m face w) v u × Follows (face_ring n m face u) w v)
        same u u' w w' p q r = rw (p, q) r

        at : (y x z i : ℕ) → i < m → y < n → Corner y (face i) x z → Follows (face_ring n m face y) x z
        at y x z i h g c = rw (← c.from, ← c.to) (on_ring n m face good y (shut y g) i h c.is)

    valence_fits : (v : ℕ) → v < n → (3 ≤ faces_at n m face v) × (faces_at n m face v ≤ 32)
    unfolding unfit_faces
    valence_fits v h = let e = or_false (ltb (faces_at n m face v) 3) (ltb 32 (faces_at n m face v)) (k.fits v h) in (ltb-false _ _ e.0, ltb-false _ _ e.1)

    proper_ring : (v : ℕ) → v < n → Proper (face_mesh n m face) v
    unfolding face_mesh
    proper_ring v h =
        let c = shut v h in
        record {
          short = rw (lt-ltb v n h) (omega (arith, ring_length n m face good v c, valence_fits v h));
          known = λ u. rw (lt-ltb v n h) (λ p. (entry_lt n m face good v c u p).0);
          other = rw (lt-ltb v n h) (λ p. (entry_lt n m face good v c v p).1 refl);
          distinct = rw (lt-ltb v n h) (ring_distinct n m face good v c);
        }

    pub taken_sound : Sound (face_mesh n m face)
    unfolding face_mesh
    taken_sound = record {
      proper = proper_ring;
      three = λ v h. rw (lt-ltb v n h) (omega (arith, ring_length n m face good v (shut v h), valence_fits v h));
      mutual' = λ v u h. rw (lt-ltb v n h) (λ p. rw (lt-ltb u n (entry_lt n m face good v (shut v h) u p).0) (back v u h p));
      face = λ v u h. rw (lt-ltb v n h) (λ p.
          let r = round v h u p in
          rw (lt-ltb (next (face_ring n m face v) u) n r.0, lt-ltb u n (entry_lt n m face good v (shut v h) u p).0) r.1);
    }
      where
        back : (v u : ℕ) → v < n → u ∈ face_ring n m face v → v ∈ face_ring n m face u
        back v u h p =
            let r = (round v h u p).1.1 in
            subst (λ x. x ∈ face_ring n m face u) r.1 (next_in (face_ring n m face u) (next (face_ring n m face v) u) r.0)

    -- each ring begins with its smallest neighbour
    pub begins_with_smallest : (v : ℕ) → v < n → (x : ℕ) → x ∈ face_ring n m face v → get_or (face_ring n m face v) 0 0 ≤ x
    unfolding face_ring least
    begins_with_smallest v h x p =
        let c = shut v h in
        let l : least n m face v ≤ x =
        ⊎_elim
        (λ q. absurd (true_not_false (entry_pair n m face good v c x p) ((first_clear (λ y. some (pair_in n m face y v) m) n).below x q.1)))
        (λ q. q.1)
        (lt_split x (least n m face v)) in
        let e =
        trail_at (after n m face v) (least n m face v) (faces_at n m face v) 0 (omega (arith, valence_fits v h))
        ∙ steps_none (after n m face v) (least n m face v) in
        omega (arith, e, l)
