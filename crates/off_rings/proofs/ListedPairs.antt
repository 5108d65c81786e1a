-- In the faces of a sound mesh, as they are listed, each ordered pair of neighbours comes once; and there are F of them. Assumes nothing.
use mathlib.Core.Path.{◌≡◌, refl, sym, ap, ◌∙◌, subst}
use mathlib.Core.Bool.{Bool, true, false, cond}
use mathlib.Core.List.{List, [], ◌∷◌}
use mathlib.Core.Logic.{⊎_elim, ◌≢◌}
use Prim.Native.Nat.{ℕ, ◌+◌, ◌<◌}
use native.Mathlib.Omega.{arith}
use lib.Dec.{eqb}
use lib.ListN.{length}
use borrow.Author.Tests.{eq-eqb, ne_eqb}
use Rattle.mesh.specs.Search.{bit, sum}
use Rattle.mesh.specs.Ring.{times, ◌∈◌, prev}
use Rattle.mesh.specs.Mesh.{Mesh, Sound, faces}
use Rattle.mesh.proofs.Lists.{eq_split, sum_same, sum_add, sum_swap}
use Rattle.mesh.proofs.Faces.{cond_zero, sum₃, low, triangles, faces_triangles}
use Rattle.mesh.proofs.SoundMeshes.{edge_ne}
use Rattle.mesh.proofs.Rings.{prev_in}
use Rattle.mesh.proofs.RingsGoRound.{next_of_prev}
use Rattle.off_rings.specs.Faces.{Face, corner, before, has_pair}
use Rattle.off_rings.specs.Listed.{face_at, begins, listed}
use Rattle.off_rings.proofs.Sums.{bit_cond}
use Rattle.off_rings.proofs.Corners.{three_ways, begins_low, begins_sum, Begun, begun}
use Rattle.off_rings.proofs.Tallies.{sum_at, sum_cond, tally, term, tally_listed}

-- ---- the three pairs of one face, by the pair's beginning

pair_ways : (f : Face) → f.a ≢ f.b → f.b ≢ f.c → f.c ≢ f.a → (x v : ℕ)
    → bit (has_pair x v f)
    ≡ (cond (eqb f.a x) (cond (eqb f.b v) 1 0) 0 + cond (eqb f.b x) (cond (eqb v f.c) 1 0) 0)
    + cond (eqb f.a v) (cond (eqb x f.c) 1 0) 0
unfolding has_pair corner before
pair_ways f ab bc ca x v =
    ⊎_elim
    (λ p.
    rw (p.0, eq-eqb f.a v (sym p.1), ne_eqb f.b v (λ q. ab (sym p.1 ∙ sym q)), ne_eqb v f.c (λ q. ca (sym q ∙ p.1)))
    (omega (arith, cond_zero (eqb f.a x) 0 refl, cond_zero (eqb f.b x) 0 refl, bit_cond (eqb x f.c))))
    (λ p.
    ⊎_elim
    (λ q.
    rw (p.0, q.0, eq-eqb f.b v (sym q.1), ne_eqb f.a v (λ r. p.1 (sym r)), ne_eqb v f.c (λ r. bc (sym q.1 ∙ r)))
    (omega (arith, cond_zero (eqb f.b x) 0 refl, bit_cond (eqb f.a x), flip x f.a)))
    (λ q.
    ⊎_elim
    (λ r.
    rw (p.0, q.0, r.0, ne_eqb f.b v (λ s. q.1 (sym s)), ne_eqb f.a v (λ s. p.1 (sym s)))
    (omega (arith, cond_zero (eqb f.a x) 0 refl, bit_cond (eqb f.b x), flip x f.b)))
    (λ r.
    rw (p.0, q.0, r.0, ne_eqb f.b v (λ s. q.1 (sym s)), ne_eqb f.a v (λ s. p.1 (sym s)))
    (omega (arith, cond_zero (eqb f.a x) 0 refl, cond_zero (eqb f.b x) 0 refl)))
    (eq_split v f.c))
    (eq_split v f.b))
    (eq_split v f.a)
  where
    flip : (x y : ℕ) → bit (eqb x y) ≡ bit (eqb y x)
    flip x y = ⊎_elim (λ e. rw (e.0, eq-eqb y x (sym e.1))) (λ e. rw (e.0, ne_eqb y x (λ q. e.1 (sym q)))) (eq_split x y)

module _ (M : Mesh) (S : Sound M) where
  -- a face that begins has corners that differ
  pub apart : (a b : ℕ) → a < M.count → Begun M S a b → (b < M.count) × ((prev (M.ring a) b < M.count) × (b ≢ prev (M.ring a) b))
  apart a b h k =
      let n = (S.proper a h).known in
      (n b k.there, (n _ (prev_in (M.ring a) b k.there), differ a b h k.there))
    where
      differ : (a b : ℕ) → a < M.count → b ∈ M.ring a → b ≢ prev (M.ring a) b
      differ a b h m =
          let c : ℕ = prev (M.ring a) b in
          let k : c ∈ M.ring a = prev_in (M.ring a) b m in
          let w : b ∈ M.ring c = subst (λ y. y ∈ M.ring c) (next_of_prev (M.ring a) (S.proper a h).distinct b m) (S.face a c h k).1.0 in
          edge_ne M S c b ((S.proper a h).known c k) w

  -- ---- how often the pair x, v comes

  module _ (x v : ℕ) (x< : x < M.count) (v< : v < M.count) where
    first_way : ℕ → ℕ → ℕ
    first_way a b = cond (eqb a x) (cond (eqb b v) (bit (begins M a b)) 0) 0

    second_way : ℕ → ℕ → ℕ
    second_way a b = cond (eqb b x) (cond (eqb v (prev (M.ring a) b)) (bit (begins M a b)) 0) 0

    third_way : ℕ → ℕ → ℕ
    third_way a b = cond (eqb a v) (cond (eqb x (prev (M.ring a) b)) (bit (begins M a b)) 0) 0

    ways : (a b : ℕ) → a < M.count → term M (λ f. bit (has_pair x v f)) a b ≡ (first_way a b + second_way a b) + third_way a b
    unfolding face_at first_way second_way third_way
    ways a b h = go (begins M a b) refl
      where
        zero_of : (s t : Bool) → cond s (cond t (bit false) 0) 0 ≡ 0
        zero_of s t = cond_zero s (cond t 0 0) (cond_zero t 0 refl)

        go : (t : Bool) → begins M a b ≡ t → term M (λ f. bit (has_pair x v f)) a b ≡ (first_way a b + second_way a b) + third_way a b
        go true e =
            let k = begun M S a b e in
            let d = apart a b h k in
            rw e (pair_ways (face_at M a b) (omega (arith, k.ab)) d.1.1 (omega (arith, k.ac)) x v)
        go false e =
            rw e
            (omega (arith, zero_of (eqb a x) (eqb b v), zero_of (eqb b x) (eqb v (prev (M.ring a) b)), zero_of (eqb a v) (eqb x (prev (M.ring a) b))))

    first_sum : sum (λ a. sum (first_way a) M.count) M.count ≡ bit (begins M x v)
    unfolding first_way
    first_sum =
        sum_same _ (λ a. cond (eqb a x) (bit (begins M a v)) 0) M.count (λ a h.
        sum_cond (eqb a x) (λ b. cond (eqb b v) (bit (begins M a b)) 0) M.count
        ∙ ap (λ k. cond (eqb a x) k 0) (sum_at (λ b. bit (begins M a b)) v M.count v<))
        ∙ sum_at (λ a. bit (begins M a v)) x M.count x<

    second_sum : sum (λ a. sum (second_way a) M.count) M.count ≡ sum (λ a. low M S a v x) M.count
    unfolding second_way
    second_sum =
        sum_same _ (λ a. low M S a v x) M.count (λ a h.
        sum_at (λ b. cond (eqb v (prev (M.ring a) b)) (bit (begins M a b)) 0) x M.count x< ∙ begins_low M S a x v h)

    third_sum : sum (λ a. sum (third_way a) M.count) M.count ≡ sum (λ b. low M S v x b) M.count
    unfolding third_way
    third_sum =
        sum_same _ (λ a. cond (eqb a v) (sum (λ b. cond (eqb x (prev (M.ring a) b)) (bit (begins M a b)) 0) M.count) 0) M.count (λ a h.
        sum_cond (eqb a v) (λ b. cond (eqb x (prev (M.ring a) b)) (bit (begins M a b)) 0) M.count)
        ∙ sum_at (λ a. sum (λ b. cond (eqb x (prev (M.ring a) b)) (bit (begins M a b)) 0) M.count) v M.count v<
        ∙ sum_same _ (λ b. low M S v x b) M.count (λ b h. begins_low M S v b x v<)

    pub listed_pairs : tally (λ f. bit (has_pair x v f)) (listed M) ≡ times x (M.ring v)
    listed_pairs =
        let n : ℕ = M.count in
        let split : sum (λ a. sum (term M (λ f. bit (has_pair x v f)) a) n) n ≡ sum (λ a. (sum (first_way a) n + sum (second_way a) n) + sum (third_way a) n) n =
        sum_same _ _ n (λ a h.
        sum_same _ _ n (λ b k. ways a b h)
        ∙ sum_add (λ b. first_way a b + second_way a b) (third_way a) n
        ∙ ap (λ k. k + sum (third_way a) n) (sum_add (first_way a) (second_way a) n)) in
        let e₁ = sum_add (λ a. sum (first_way a) n + sum (second_way a) n) (λ a. sum (third_way a) n) n in
        let e₂ = sum_add (λ a. sum (first_way a) n) (λ a. sum (second_way a) n) n in
        let e₃ = tally_listed M (λ f. bit (has_pair x v f)) in
        omega (arith, e₃, split, e₁, e₂, first_sum, second_sum, third_sum, begins_sum M S x v x<, three_ways M S x v x< v<)

  -- ---- how many faces are listed

  pub listed_count : length (listed M) ≡ faces M
  unfolding triangles sum₃
  listed_count =
      let n : ℕ = M.count in
      length_tally (listed M)
      ∙ tally_listed M (λ f. 1)
      ∙ sum_same _ _ n (λ a h.
      sum_same (term M (λ f. 1) a) (λ b. sum (λ u. low M S a u b) n) n (λ b k. sym (bit_cond (begins M a b)) ∙ sym (begins_sum M S a b h))
      ∙ sum_swap (λ b u. low M S a u b) n n)
      ∙ sym (faces_triangles M S)
    where
      length_tally : (l : List Face) → length l ≡ tally (λ f. 1) l
      length_tally [] = refl
      length_tally (f ∷ l) = omega (arith, length_tally l)
