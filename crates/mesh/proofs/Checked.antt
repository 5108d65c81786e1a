-- The tests of a vertex hold nowhere exactly on the sound meshes.
-- Assumes nothing.
use mathlib.Core.Path.{◌≡◌, refl, sym, ap, subst, ◌∙◌}
use mathlib.Core.Bool.{true, false, not, ◌||◌}
use mathlib.Core.List.{List, [], ◌∷◌}
use mathlib.Core.Logic.{⊎_elim, ◌≢◌}
use Prim.Native.Nat.{ℕ, suc, ◌≤◌, ◌<◌}
use native.Mathlib.Omega.{arith}
use lib.ListN.{length, get_or}
use borrow.Author.Tests.{ne_eqb, le-ltb, ltb-false, lt-leb, not-false}
use Rattle.mesh.specs.Ring.{times, ◌∈◌, has, Distinct, place, place_after, next, Follows, follows}
use Rattle.mesh.specs.Mesh.{Mesh, Proper, Sound}
use Rattle.mesh.specs.Tests.{repeat_at, bad_at, improper, lacks_at, one_sided, open_at, open_faced}
use Rattle.mesh.proofs.Lists.{eq_split, lt_split}
use Rattle.mesh.proofs.First.{Clear, or_false, or_both, some_all, none_some}
use Rattle.mesh.proofs.Rings.{place_lt, get_or_place, get_or_in, place_get_or, next_at}
use Rattle.mesh.proofs.Places.{place_le, has_in, in_has, follows_true, true_follows, bad_false}

-- ---- no repeats, by places

none : (x : ℕ) (l : List ℕ) → ((k : ℕ) → k < length l → get_or l k 0 ≢ x) → times x l ≡ 0
none x l n = ⊎_elim (λ q. absurd (n (place x l) (place_lt x l q.1) (get_or_place x l 0 q.1))) (λ q. omega arith) (lt_split 0 (times x l))

pub distinct_places : (l : List ℕ) → ((i j : ℕ) → i < j → j < length l → get_or l i 0 ≢ get_or l j 0) → Distinct l
distinct_places [] n x = omega arith
distinct_places (a ∷ l) n x =
    let ih = distinct_places l (λ i j h g. n (suc i) (suc j) (omega arith) (omega arith)) x in
    ⊎_elim
    (λ e. rw e.0 (omega (arith, none x l (λ k g q. n 0 (suc k) (omega arith) (omega arith) (sym e.1 ∙ sym q)))))
    (λ e. rw e.0 (omega (arith, ih)))
    (eq_split x a)

module _ (M : Mesh) where
  -- ---- 4

  pub improper_false : (v : ℕ) → improper M v ≡ false → (length (M.ring v) ≤ 32) × Clear (bad_at M.count v (M.ring v)) (length (M.ring v))
  unfolding improper
  improper_false v e = let a = or_false _ _ e in (ltb-false 32 (length (M.ring v)) a.0, some_all _ _ a.1)

  pub proper_of : (v : ℕ) → improper M v ≡ false → Proper M v
  proper_of v e =
      let l : List ℕ = M.ring v in
      let k = improper_false v e in
      let good : (i : ℕ) → i < length l → (get_or l i 0 < M.count) × (get_or l i 0 ≡ v → ⊥) × (i ≤ place (get_or l i 0) l) = λ i h. bad_false M.count v l i (k.1.below i h) in
      let entry : (u : ℕ) → u ∈ l → (u < M.count) × (u ≡ v → ⊥) × (place u l ≤ place u l) =
      λ u m. subst (λ (x : ℕ). (x < M.count) × (x ≡ v → ⊥) × (place u l ≤ place x l)) (get_or_place u l 0 m) (good (place u l) (place_lt u l m)) in
      record {
        short = k.0;
        known = λ u m. (entry u m).0;
        other = λ m. (entry v m).1 refl;
        distinct = distinct_places l (λ i j h g q. absurd (let a = (good j g).2 in let b = place_le (get_or l j 0) l i (omega arith) q in omega arith));
      }

  pub of_proper : (v : ℕ) → Proper M v → improper M v ≡ false
  unfolding improper bad_at repeat_at
  of_proper v P =
      let l : List ℕ = M.ring v in
      or_both _ _ (le-ltb 32 (length l) P.short)
      (none_some (bad_at M.count v l) (length l) (λ i h.
      let m : get_or l i 0 ∈ l = get_or_in l i 0 h in
      or_both _ _ (lt-leb M.count (get_or l i 0) (P.known (get_or l i 0) m))
      (or_both _ _ (ne_eqb (get_or l i 0) v (λ q. P.other (subst (λ (x : ℕ). x ∈ l) q m)))
      (le-ltb (place (get_or l i 0) l) i (omega (arith, place_get_or l i 0 P.distinct h))))))

  -- ---- 5

  pub mutual_of : (v : ℕ) → one_sided M v ≡ false → (u : ℕ) → u ∈ M.ring v → v ∈ M.ring u
  unfolding one_sided lacks_at
  mutual_of v e u m =
      let l : List ℕ = M.ring v in
      let k : not (has v (M.ring (get_or l (place u l) 0))) ≡ false = (some_all (lacks_at M v) (length l) e).below (place u l) (place_lt u l m) in
      has_in v (M.ring u) (subst (λ (x : ℕ). has v (M.ring x) ≡ true) (get_or_place u l 0 m) (not-false _ k))

  pub of_mutual : (v : ℕ) → ((u : ℕ) → u ∈ M.ring v → v ∈ M.ring u) → one_sided M v ≡ false
  unfolding one_sided lacks_at
  of_mutual v h = none_some (lacks_at M v) (length (M.ring v)) (λ i k. ap not (in_has v _ (h (get_or (M.ring v) i 0) (get_or_in (M.ring v) i 0 k))))

  -- ---- 6

  pub face_of : (v : ℕ) → open_faced M v ≡ false → (u : ℕ) → u ∈ M.ring v → let w = next (M.ring v) u in Follows (M.ring w) v u × Follows (M.ring u) w v
  unfolding open_faced open_at next
  face_of v e u m =
      let l : List ℕ = M.ring v in
      let w : ℕ = get_or l (place_after (length l) (place u l)) 0 in
      let k = (some_all (open_at M v) (length l) e).below (place u l) (place_lt u l m) in
      let b =
      or_false (not (follows (M.ring w) v u)) (not (follows (M.ring u) w v))
      (subst (λ (x : ℕ). (not (follows (M.ring w) v x) || not (follows (M.ring x) w v)) ≡ false) (get_or_place u l 0 m) k) in
      (follows_true (M.ring w) v u (not-false _ b.0), follows_true (M.ring u) w v (not-false _ b.1))

  pub of_face : (v : ℕ) → Distinct (M.ring v) → ((u : ℕ) → u ∈ M.ring v → let w = next (M.ring v) u in Follows (M.ring w) v u × Follows (M.ring u) w v) → open_faced M v ≡ false
  unfolding open_faced open_at
  of_face v d f =
      let l : List ℕ = M.ring v in
      none_some (open_at M v) (length l) (λ i h.
      let u : ℕ = get_or l i 0 in
      let w : ℕ = get_or l (place_after (length l) i) 0 in
      let e : next l u ≡ w = next_at l u ∙ ap (λ (k : ℕ). get_or l (place_after (length l) k) 0) (place_get_or l i 0 d h) in
      let g : Follows (M.ring w) v u × Follows (M.ring u) w v = subst (λ (x : ℕ). Follows (M.ring x) v u × Follows (M.ring u) x v) e (f u (get_or_in l i 0 h)) in
      or_both _ _ (ap not (true_follows (M.ring w) v u g.0)) (ap not (true_follows (M.ring u) w v g.1)))

  -- ---- all three

  pub sound_of : ((v : ℕ) → v < M.count → 3 ≤ length (M.ring v)) → ((v : ℕ) → v < M.count → improper M v ≡ false) → ((v : ℕ) → v < M.count → one_sided M v ≡ false)
      → ((v : ℕ) → v < M.count → open_faced M v ≡ false) → Sound M
  sound_of t a b c = record {
    proper = λ v h. proper_of v (a v h);
    three = t;
    mutual' = λ v u h m. mutual_of v (b v h) u m;
    face = λ v u h m. face_of v (c v h) u m;
  }

  module _ (S : Sound M) (v : ℕ) (h : v < M.count) where
    pub sound_proper : improper M v ≡ false
    sound_proper = of_proper v (S.proper v h)

    pub sound_mutual : one_sided M v ≡ false
    sound_mutual = of_mutual v (λ u m. S.mutual' v u h m)

    pub sound_face : open_faced M v ≡ false
    sound_face = of_face v (S.proper v h).distinct (λ u m. S.face v u h m)
