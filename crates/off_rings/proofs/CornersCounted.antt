-- The corners of the faces of a sound mesh, as they are listed: a vertex stands in as many faces as it has neighbours. Assumes nothing.
use mathlib.Core.Path.{◌≡◌, refl, sym, ap, ◌∙◌}
use mathlib.Core.Bool.{cond}
use mathlib.Core.Logic.{⊎_elim}
use Prim.Native.Nat.{ℕ, zero, suc, ◌+◌, ◌*◌}
use native.Mathlib.Nat.{add-mul}
use native.Mathlib.Omega.{arith}
use lib.Dec.{eqb}
use lib.ListN.{length, get_or}
use borrow.Author.Tests.{ne_eqb}
use Rattle.mesh.specs.Search.{bit, sum}
use Rattle.mesh.specs.Mesh.{Mesh, Sound}
use Rattle.mesh.proofs.Lists.{eq_split, sum_same, sum_add, sum_swap}
use Rattle.off_rings.specs.Faces.{Face, corner, faces_at}
use Rattle.off_rings.specs.Listed.{listed}
use Rattle.off_rings.proofs.Pairs.{Fine, fine_of}
use Rattle.off_rings.proofs.Tallies.{sum_at, tally, tally_sum}
use Rattle.off_rings.proofs.WrittenFacesReadBack.{valence_back, written_taken}

sum_scale : (f : ℕ → ℕ) (c n : ℕ) → sum (λ i. f i * c) n ≡ sum f n * c
sum_scale f c zero = omega arith
sum_scale f c (suc n) = omega (arith, sum_scale f c n, add-mul (sum f n) (f n) c)

-- every number counts for d of it
module _ (d : ℕ → ℕ) where
  abbrev pub at_corners : Face → ℕ
  at_corners f = d f.a + d f.b + d f.c

  corner_ways : (n v : ℕ) (f : Face) → Fine n f
      → bit (corner v f) * d v ≡ (cond (eqb v f.a) (d v) 0 + cond (eqb v f.b) (d v) 0) + cond (eqb v f.c) (d v) 0
  unfolding corner
  corner_ways n v f k =
      ⊎_elim
      (λ p. rw (p.0, ne_eqb v f.b (λ q. k.ab (sym p.1 ∙ q)), ne_eqb v f.c (λ q. k.ca (sym q ∙ p.1))) (omega arith))
      (λ p.
      ⊎_elim
      (λ q. rw (p.0, q.0, ne_eqb v f.c (λ r. k.bc (sym q.1 ∙ r))) (omega arith))
      (λ q. ⊎_elim (λ r. rw (p.0, q.0, r.0) (omega arith)) (λ r. rw (p.0, q.0, r.0) (omega arith)) (eq_split v f.c))
      (eq_split v f.b))
      (eq_split v f.a)

  corner_sum : (n : ℕ) (f : Face) → Fine n f → sum (λ v. bit (corner v f) * d v) n ≡ at_corners f
  corner_sum n f k =
      let way : ℕ → ℕ → ℕ = λ x v. cond (eqb v x) (d v) 0 in
      let e₁ = sum_add (λ v. way f.a v + way f.b v) (way f.c) n in
      let e₂ = sum_add (way f.a) (way f.b) n in
      let e₃ = sum_same _ (λ v. (way f.a v + way f.b v) + way f.c v) n (λ v h. corner_ways n v f k) in
      omega (arith, e₁, e₂, e₃, sum_at d f.a n k.a<, sum_at d f.b n k.b<, sum_at d f.c n k.c<)

  module _ (M : Mesh) (S : Sound M) where
    pub corners_counted : tally at_corners (listed M) ≡ sum (λ v. length (M.ring v) * d v) M.count
    unfolding faces_at
    corners_counted =
        let none : Face = record { a = 0; b = 0; c = 0 } in
        let face : ℕ → Face = λ i. get_or (listed M) i none in
        let m : ℕ = length (listed M) in
        let n : ℕ = M.count in
        let t = written_taken M S none m face refl (λ i h. refl) in
        sym (tally_sum at_corners (listed M) none)
        ∙ sum_same (λ i. at_corners (face i)) (λ i. sum (λ v. bit (corner v (face i)) * d v) n) m
        (λ i h. sym (corner_sum n (face i) (fine_of n (face i) (t.fine i h))))
        ∙ sum_swap (λ i v. bit (corner v (face i)) * d v) m n
        ∙ sum_same _ (λ v. length (M.ring v) * d v) n (λ v h.
        sum_scale (λ i. bit (corner v (face i))) (d v) m ∙ ap (λ k. k * d v) (valence_back M S none m face refl (λ i h. refl) v h))
