-- The triangles of a sound mesh, each counted at its smallest corner: the laws of `tri` and `low` (mesh, Faces) that speak of one ordered pair.
-- Assumes nothing.
use mathlib.Core.Path.{◌≡◌, refl, sym, ap, ◌∙◌, subst}
use mathlib.Core.Bool.{Bool, true, false, cond, ◌&&◌}
use mathlib.Core.Logic.{⊎_elim}
use Prim.Native.Nat.{ℕ, ◌+◌, ◌≤◌, ◌<◌, min}
use native.Mathlib.Omega.{arith}
use lib.Dec.{ltb, eqb}
use borrow.Author.Tests.{lt-ltb, le-ltb, ltb-true}
use Rattle.mesh.specs.Search.{bit, sum}
use Rattle.mesh.specs.Ring.{times, ◌∈◌, has, next, prev}
use Rattle.mesh.specs.Mesh.{Mesh, Sound}
use Rattle.mesh.proofs.Lists.{eq_split, lt_split, sum_same, sum_add, sum_zero, sum_pick}
use Rattle.mesh.proofs.Rings.{next_in, prev_in}
use Rattle.mesh.proofs.RingsGoRound.{next_of_prev, prev_is_what_it_follows}
use Rattle.mesh.proofs.Places.{in_has, has_in}
use Rattle.mesh.proofs.First.{by_cases, true_not_false}
use Rattle.mesh.proofs.Faces.{cond_zero, tri, low, tri_yes, tri_cases, tri_low, all_third}
use Rattle.off_rings.specs.Listed.{begins}
use Rattle.off_rings.proofs.Sums.{bit_cond}

-- a smaller than two numbers
both_less : (a u w : ℕ) → ltb a w && ltb a u ≡ ltb a (min u w)
both_less a u w =
    ⊎_elim
    (λ h. ⊎_elim (λ g. rw (h.0, g.0, lt-ltb a (min u w) (omega arith))) (λ g. rw (h.0, g.0, le-ltb a (min u w) (omega arith))) (lt_split a u))
    (λ h. rw (h.0, le-ltb a (min u w) (omega arith)))
    (lt_split a w)

module _ (M : Mesh) (S : Sound M) where
  -- the triangles with the ordered pair x, v, by which of the three corners is the smallest
  pub three_ways : (x v : ℕ) → x < M.count → v < M.count
      → (sum (λ t. low M S v x t) M.count + sum (λ t. low M S x t v) M.count) + sum (λ t. low M S t v x) M.count ≡ times x (M.ring v)
  three_ways x v g h =
      let n : ℕ = M.count in
      let e₁ = sum_add (λ t. low M S v x t) (λ t. low M S x t v) n in
      let e₂ = sum_add (λ t. low M S v x t + low M S x t v) (λ t. low M S t v x) n in
      let e₃ = sum_same (λ t. tri M S v x t) (λ t. (low M S v x t + low M S x t v) + low M S t v x) n (λ t k. tri_low M S v x t h g k) in
      omega (arith, e₁, e₂, e₃, all_third M S v x h)

  -- ---- a face as it is listed, and its third corner

  low_none : (a u b : ℕ) → (u ∈ M.ring a → b ≡ next (M.ring a) u → ⊥) → low M S a u b ≡ 0
  unfolding low
  low_none a u b n = cond_zero (ltb a (min u b)) (tri M S a u b) (⊎_elim (λ z. z) (λ r. absurd (n r.0 r.1)) (tri_cases M S a u b))

  low_one : (a u b : ℕ) → a < M.count → u ∈ M.ring a → b ≡ next (M.ring a) u → low M S a u b ≡ bit (ltb a (min u b))
  unfolding low
  low_one a u b h m e = one (ltb a (min u b)) (tri M S a u b) (omega (arith, tri_yes M S a u b m e, (S.proper a h).distinct u))
    where
      one : (t : Bool) (c : ℕ) → c ≡ 1 → cond t c 0 ≡ bit t
      one t c q = ap (λ k. cond t k 0) q ∙ sym (bit_cond t)

  begins_there : (a b : ℕ) → b ∈ M.ring a → begins M a b ≡ ltb a (min (prev (M.ring a) b) b)
  unfolding begins
  begins_there a b m = rw (in_has b (M.ring a) m) (both_less a (prev (M.ring a) b) b)

  begins_absent : (a b : ℕ) → times b (M.ring a) ≤ 0 → begins M a b ≡ false
  unfolding begins
  begins_absent a b m = rw (by_cases (has b (M.ring a)) (λ e. absurd (omega (arith, has_in b (M.ring a) e))))

  pub begins_low : (a b u : ℕ) → a < M.count → cond (eqb u (prev (M.ring a) b)) (bit (begins M a b)) 0 ≡ low M S a u b
  begins_low a b u h =
      ⊎_elim
      (λ q.
      ⊎_elim
      (λ e.
      rw (e.0, begins_there a b q.1)
      (sym
      (low_one a u b h (subst (λ x. x ∈ M.ring a) (sym e.1) (prev_in (M.ring a) b q.1))
      (sym (next_of_prev (M.ring a) (S.proper a h).distinct b q.1) ∙ ap (next (M.ring a)) (sym e.1))
      ∙ ap (λ x. bit (ltb a (min x b))) e.1)))
      (λ e. rw e.0 (sym (low_none a u b (λ m g. e.1 (sym (prev_is_what_it_follows (M.ring a) (S.proper a h).distinct u b m (sym g)))))))
      (eq_split u (prev (M.ring a) b)))
      (λ q.
      rw (begins_absent a b q.1)
      (cond_zero (eqb u (prev (M.ring a) b)) 0 refl
      ∙ sym (low_none a u b (λ m g. none (subst (λ x. x ∈ M.ring a) (sym g) (next_in (M.ring a) u m)) q.1))))
      (lt_split 0 (times b (M.ring a)))
    where
      none : 0 < times b (M.ring a) → times b (M.ring a) ≤ 0 → ⊥
      none p q = omega arith

  -- what begins a face is one of its low corners
  pub begins_sum : (a b : ℕ) → a < M.count → sum (λ u. low M S a u b) M.count ≡ bit (begins M a b)
  begins_sum a b h =
      sum_same _ _ M.count (λ u k. sym (begins_low a b u h))
      ∙ ⊎_elim
      (λ q. sum_pick (prev (M.ring a) b) (bit (begins M a b)) M.count ((S.proper a h).known _ (prev_in (M.ring a) b q.1)))
      (λ q.
      rw (begins_absent a b q.1)
      (sum_zero (λ u. cond (eqb u (prev (M.ring a) b)) 0 0) M.count (λ u k. cond_zero (eqb u (prev (M.ring a) b)) 0 refl)))
      (lt_split 0 (times b (M.ring a)))

  -- ---- the corners of a face that begins

  pub record Begun (a b : ℕ) : Type 0 where
    pub there : b ∈ M.ring a
    pub ab : a < b
    pub ac : a < prev (M.ring a) b

  pub begun : (a b : ℕ) → begins M a b ≡ true → Begun a b
  unfolding begins
  begun a b e =
      let p = and_true _ _ e in
      let q = and_true _ _ p.1 in
      record { there = has_in b (M.ring a) p.0; ab = ltb-true _ _ q.0; ac = ltb-true _ _ q.1 }
    where
      and_true : (s t : Bool) → s && t ≡ true → (s ≡ true) × (t ≡ true)
      and_true true t e = (refl, e)
      and_true false t e = absurd (true_not_false e refl)
