-- The edges of a mesh whose rings are proper and mutual: those of p by their greater ends, and how many there are.
-- Assumes nothing.
use mathlib.Core.Path.{◌≡◌, refl, sym, ap, ◌∙◌, subst}
use mathlib.Core.List.{List, [], ◌∷◌}
use mathlib.Core.Logic.{⊎_elim, ◌≢◌}
use Prim.Native.Nat.{ℕ, ◌+◌, ◌*◌, ◌/◌, ◌≤◌, ◌<◌}
use native.Mathlib.Nat.{mul-div_cancel_left}
use native.Mathlib.Omega.{arith}
use lib.Dec.{lit<}
use lib.ListN.{length}
use borrow.Author.Tests.{ne_eqb}
use Rattle.mesh.specs.Search.{sum}
use Rattle.mesh.specs.Ring.{times, ◌∈◌, Distinct}
use Rattle.mesh.specs.Mesh.{Mesh, Proper, edges, valences, over, up}
use Rattle.mesh.specs.Numbering.{start}
use Rattle.mesh.proofs.Lists.{lt_split, sum_same, sum_add, sum_swap, sum_times}

-- which entries are among those over p
pub over_in : (q p : ℕ) (l : List ℕ) → p < q → times q (over p l) ≡ times q l
over_in q p [] h = refl
over_in q p (a ∷ l) h =
    ⊎_elim
    (λ g. rw g.0 (omega (arith, over_in q p l h)))
    (λ g. rw (g.0, ne_eqb q a (omega arith)) (omega (arith, over_in q p l h)))
    (lt_split p a)

pub over_out : (q p : ℕ) (l : List ℕ) → q ≤ p → times q (over p l) ≡ 0
over_out q p [] h = refl
over_out q p (a ∷ l) h =
    ⊎_elim
    (λ g. rw (g.0, ne_eqb q a (omega arith)) (omega (arith, over_out q p l h)))
    (λ g. rw g.0 (over_out q p l h))
    (lt_split p a)

-- the edges counted by their lower ends
unfoldable pub pairs : Mesh → ℕ
pairs M = start (up M) M.count

-- the rings are proper and mutual
module _ (M : Mesh) (proper : (v : ℕ) → v < M.count → Proper M v) (mut : (v u : ℕ) → v < M.count → u ∈ M.ring v → v ∈ M.ring u) where
  pub ring_lt : (v u : ℕ) → v < M.count → u ∈ M.ring v → u < M.count
  ring_lt v u h m = (proper v h).known u m

  pub ring_ne : (v u : ℕ) → v < M.count → u ∈ M.ring v → u ≢ v
  ring_ne v u h m e = (proper v h).other (subst (λ x. x ∈ M.ring v) e m)

  -- up p has the q of the edges p < q
  pub up_ring : (p q : ℕ) → q ∈ up M p → (p < q) × (q ∈ M.ring p)
  unfolding up
  up_ring p q m =
      ⊎_elim
      (λ h. (h.1, omega (arith, over_in q p (M.ring p) h.1)))
      (λ h. absurd (omega (arith, over_out q p (M.ring p) h.1)))
      (lt_split p q)

  pub ring_up : (p q : ℕ) → p < q → q ∈ M.ring p → q ∈ up M p
  unfolding up
  ring_up p q h m = omega (arith, over_in q p (M.ring p) h)

  pub up_lt : (p : ℕ) → p < M.count → (q : ℕ) → q ∈ up M p → q < M.count
  up_lt p h q m = ring_lt p q h (up_ring p q m).1

  pub up_once : (p : ℕ) → p < M.count → Distinct (up M p)
  unfolding up
  up_once p h q =
      ⊎_elim
      (λ g. omega (arith, over_in q p (M.ring p) g.1, (proper p h).distinct q))
      (λ g. omega (arith, over_out q p (M.ring p) g.1))
      (lt_split p q)

  -- the rings as a table of zeros and ones, which is symmetric
  times_sym : (p q : ℕ) → p < M.count → q < M.count → times q (M.ring p) ≡ times p (M.ring q)
  times_sym p q h g =
      ⊎_elim
      (λ e. ⊎_elim (λ f. omega (arith, (proper p h).distinct q, (proper q g).distinct p)) (λ f. absurd (omega (arith, mut p q h e.1))) (lt_split 0 (times p (M.ring q))))
      (λ e. ⊎_elim (λ f. absurd (omega (arith, mut q p g f.1))) (λ f. omega arith) (lt_split 0 (times p (M.ring q))))
      (lt_split 0 (times q (M.ring p)))

  -- each entry is counted at one of the two ends
  times_up : (p q : ℕ) → p < M.count → q < M.count → times q (M.ring p) ≡ times q (up M p) + times p (up M q)
  unfolding up
  times_up p q h g =
      ⊎_elim
      (λ l. omega (arith, over_in q p (M.ring p) l.1, over_out p q (M.ring q) (omega arith)))
      (λ l.
      ⊎_elim
      (λ k. omega (arith, over_out q p (M.ring p) l.1, over_in p q (M.ring q) k.1, times_sym p q h g))
      (λ k.
      ⊎_elim
      (λ m. absurd (ring_ne p q h m.1 (omega arith)))
      (λ m. omega (arith, over_out q p (M.ring p) l.1, over_out p q (M.ring q) k.1))
      (lt_split 0 (times q (M.ring p))))
      (lt_split q p))
      (lt_split p q)

  handshake_pairs : valences M ≡ 2 * pairs M
  unfolding valences pairs start
  handshake_pairs =
      let n : ℕ = M.count in
      let c : ℕ → ℕ → ℕ = λ p q. times q (M.ring p) in
      let u : ℕ → ℕ → ℕ = λ p q. times q (up M p) in
      let e₁ : sum (λ p. length (M.ring p)) n ≡ sum (λ p. sum (c p) n) n = sum_same _ _ n (λ p h. sym (sum_times n (M.ring p) (λ q. ring_lt p q h))) in
      let e₂ : sum (λ p. sum (c p) n) n ≡ sum (λ p. sum (u p) n + sum (λ q. u q p) n) n =
      sum_same _ _ n (λ p h. sum_same _ _ n (λ q g. times_up p q h g) ∙ sum_add (u p) (λ q. u q p) n) in
      let e₃ : sum (λ p. sum (u p) n + sum (λ q. u q p) n) n ≡ sum (λ p. sum (u p) n) n + sum (λ p. sum (λ q. u q p) n) n = sum_add _ _ n in
      let e₄ : sum (λ p. sum (u p) n) n ≡ sum (λ p. length (up M p)) n = sum_same _ _ n (λ p h. sum_times n (up M p) (up_lt p h)) in
      omega (arith, e₁, e₂, e₃, e₄, sum_swap u n n)

  -- E, half the sum of valences, is the number of pairs p < q
  pub edges_pairs : edges M ≡ pairs M
  unfolding edges
  edges_pairs = ap (λ x. x / 2) handshake_pairs ∙ mul-div_cancel_left (pairs M) (lit< tt)

  pub handshake : valences M ≡ 2 * edges M
  handshake = omega (arith, handshake_pairs, edges_pairs)
