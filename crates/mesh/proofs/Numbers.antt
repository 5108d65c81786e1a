-- The numbering of rows: in range, one to one, and onto.
-- Assumes nothing.
use mathlib.Core.Path.{◌≡◌, refl, sym, subst}
use mathlib.Core.List.{List}
use Prim.Native.Nat.{ℕ, suc, ◌+◌, ◌-◌, ◌≤◌, ◌<◌}
use native.Mathlib.Omega.{arith}
use lib.ListN.{length}
use Rattle.mesh.specs.Search.{find}
use Rattle.mesh.specs.Ring.{◌∈◌, Distinct}
use Rattle.mesh.specs.Numbering.{below, start, number, row_of, entry_of}
use Rattle.mesh.proofs.Lists.{below_suc, below_zero, below_all, climbs, find_step, one_step}

pub start_suc : (rows : ℕ → List ℕ) (p : ℕ) → start rows (suc p) ≡ start rows p + length (rows p)
unfolding start
start_suc rows p = refl

pub start_zero : (rows : ℕ → List ℕ) → start rows 0 ≡ 0
unfolding start
start_zero rows = refl

start_up : (rows : ℕ → List ℕ) (p : ℕ) → start rows p ≤ start rows (suc p)
start_up rows p = omega (arith, start_suc rows p)

below_up : (l : List ℕ) (k : ℕ) → below k l ≤ below (suc k) l
below_up l k = omega (arith, below_suc k l)

-- n rows, of entries below b that do not repeat in a row
module _ (rows : ℕ → List ℕ) (n b : ℕ) (known : (p : ℕ) → p < n → (k : ℕ) → k ∈ rows p → k < b) (once : (p : ℕ) → p < n → Distinct (rows p)) where
  below_length : (p k : ℕ) → p < n → k ∈ rows p → below (suc k) (rows p) ≤ length (rows p)
  below_length p k h m = subst (λ t. below (suc k) (rows p) ≤ t) (below_all b (rows p) (known p h)) (climbs (λ i. below i (rows p)) (below_up (rows p)) (suc k) b (known p h k m))

  -- where the number of an entry lies
  number_row : (p k : ℕ) → p < n → k ∈ rows p → (start rows p ≤ number rows p k) × (number rows p k < start rows (suc p))
  unfolding number
  number_row p k h m = (omega arith, omega (arith, start_suc rows p, below_suc k (rows p), below_length p k h m))

  pub number_range : (p k : ℕ) → p < n → k ∈ rows p → number rows p k < start rows n
  number_range p k h m = omega (arith, number_row p k h m, climbs (start rows) (start_up rows) (suc p) n h)

  same_row : (p k k' : ℕ) → k ∈ rows p → k' ∈ rows p → number rows p k ≡ number rows p k' → k ≡ k'
  unfolding number
  same_row p k k' m m' e =
      one_step (λ i. below i (rows p)) (below_up (rows p)) (below k (rows p)) k k' (omega arith) (omega (arith, below_suc k (rows p))) (omega arith)
      (omega (arith, below_suc k' (rows p)))

  pub number_inj : (p k p' k' : ℕ) → p < n → k ∈ rows p → p' < n → k' ∈ rows p' → number rows p k ≡ number rows p' k' → (p ≡ p') × (k ≡ k')
  number_inj p k p' k' h m h' m' e =
      let r = number_row p k h m in
      let r' = number_row p' k' h' m' in
      let same : p ≡ p' = one_step (start rows) (start_up rows) (number rows p k) p p' r.0 r.1 (omega arith) (omega arith) in
      (same, same_row p k k' m (subst (λ i. k' ∈ rows i) (sym same) m') (subst (λ i. number rows p k ≡ number rows i k') (sym same) e))

  -- by row, and in a row by entry, ascending
  pub number_later_row : (p k p' k' : ℕ) → p < n → k ∈ rows p → p < p' → number rows p k < number rows p' k'
  unfolding number
  number_later_row p k p' k' h m l = omega (arith, number_row p k h m, climbs (start rows) (start_up rows) (suc p) p' l)

  pub number_later_entry : (p k k' : ℕ) → k ∈ rows p → k < k' → number rows p k < number rows p k'
  unfolding number
  number_later_entry p k k' m l = omega (arith, below_suc k (rows p), climbs (λ i. below i (rows p)) (below_up (rows p)) (suc k) k' l)

  pub number_onto : (x : ℕ) → x < start rows n → (row_of rows n x < n) × (entry_of rows n b x ∈ rows (row_of rows n x)) × (number rows (row_of rows n x) (entry_of rows n b x) ≡ x)
  unfolding number row_of entry_of
  number_onto x h =
      let p : ℕ = find (start rows) x n in
      let r = find_step (start rows) x n (omega (arith, start_zero rows)) h in
      let y : ℕ = x - start rows p in
      let k : ℕ = find (λ i. below i (rows p)) y b in
      let s = find_step (λ i. below i (rows p)) y b (omega (arith, below_zero (rows p))) (omega (arith, below_all b (rows p) (known p r.0), start_suc rows p)) in
      (r.0, omega (arith, below_suc k (rows p)), omega (arith, below_suc k (rows p), once p r.0 k))
