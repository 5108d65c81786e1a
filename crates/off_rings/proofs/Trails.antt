-- Steps and trails: a walk that is back for the first time after n steps meets n numbers that differ, and each is followed by the next one. Assumes nothing.
use mathlib.Core.Path.{◌≡◌, refl, sym, ap, ◌∙◌}
use mathlib.Core.List.{List}
use mathlib.Core.Logic.{⊎_elim, ◌≢◌}
use Prim.Native.Nat.{ℕ, zero, suc, ◌+◌, ◌-◌, ◌≤◌, ◌<◌}
use native.Mathlib.Nat.{zero-add, suc-add}
use native.Mathlib.Omega.{arith}
use lib.ListN.{length, get_or}
use Rattle.mesh.specs.Ring.{◌∈◌, Distinct, next, place, place_after}
use Rattle.mesh.proofs.Lists.{eq_split}
use Rattle.mesh.proofs.Rings.{next_get_or, place_lt, get_or_place}
use Rattle.mesh.proofs.Checked.{distinct_places}
use Rattle.off_rings.specs.Faces.{steps, trail}

module _ (f : ℕ → ℕ) where
  pub steps_more : (x i k : ℕ) → steps f x (i + k) ≡ steps f (steps f x i) k
  unfolding steps
  steps_more x zero k = rw (zero-add k)
  steps_more x (suc i) k = rw (suc-add i k) (steps_more (f x) i k)

  pub steps_none : (x : ℕ) → steps f x 0 ≡ x
  unfolding steps
  steps_none x = refl

  pub steps_suc : (x k : ℕ) → steps f x (suc k) ≡ f (steps f x k)
  unfolding steps
  steps_suc x zero = refl
  steps_suc x (suc k) = steps_suc (f x) k

  pub trail_length : (x n : ℕ) → length (trail f x n) ≡ n
  unfolding trail
  trail_length x zero = refl
  trail_length x (suc n) = ap suc (trail_length (f x) n)

  pub trail_at : (x n i : ℕ) → i < n → get_or (trail f x n) i 0 ≡ steps f x i
  unfolding trail steps
  trail_at x zero i h = absurd (omega arith)
  trail_at x (suc n) zero h = refl
  trail_at x (suc n) (suc i) h = trail_at (f x) n i (omega arith)

  -- back for the first time after n steps
  pub record Loop (x n : ℕ) : Type 0 where
    pub back : steps f x n ≡ x
    pub first : (k : ℕ) → 0 < k → k < n → steps f x k ≢ x

  module _ (x n : ℕ) (L : Loop x n) where
    -- from two equal places on the walk is the same, so it would be back too early
    steps_apart : (i j : ℕ) → i < j → j < n → steps f x i ≢ steps f x j
    steps_apart i j h g e =
        L.first (i + (n - j)) (omega arith) (omega arith)
        (steps_more x i (n - j)
        ∙ ap (λ y. steps f y (n - j)) e
        ∙ sym (steps_more x j (n - j))
        ∙ ap (steps f x) (sum_is j n (omega arith))
        ∙ L.back)
      where
        sum_is : (j n : ℕ) → j ≤ n → j + (n - j) ≡ n
        sum_is j n h = omega arith

    pub trail_distinct : Distinct (trail f x n)
    trail_distinct =
        distinct_places (trail f x n) (λ i j h g.
        let g' : j < n = omega (arith, trail_length x n) in
        λ e. steps_apart i j h g' (sym (trail_at x n i (omega arith)) ∙ e ∙ trail_at x n j g'))

    -- next of an entry is one step on
    pub trail_next : (y : ℕ) → y ∈ trail f x n → next (trail f x n) y ≡ f y
    unfolding place_after
    trail_next y m =
        let l : List ℕ = trail f x n in
        let i : ℕ = place y l in
        let h : i < n = omega (arith, place_lt y l m, trail_length x n) in
        let at : steps f x i ≡ y = sym (trail_at x n i h) ∙ get_or_place y l 0 m in
        let go : get_or l (place_after (length l) i) 0 ≡ f y =
        ⊎_elim
        (λ e.
        rw e.0
        (trail_at x n 0 (omega arith)
        ∙ steps_none x
        ∙ sym L.back
        ∙ ap (steps f x) (sym (trail_length x n) ∙ sym e.1)
        ∙ steps_suc x i
        ∙ ap f at))
        (λ e. rw e.0 (trail_at x n (suc i) (inside i (omega arith) e.1) ∙ steps_suc x i ∙ ap f at))
        (eq_split (suc i) (length l)) in
        ap (next l) (sym (get_or_place y l 0 m)) ∙ next_get_or l trail_distinct i (place_lt y l m) ∙ go
      where
        inside : (i : ℕ) → i < n → suc i ≢ length (trail f x n) → suc i < n
        inside i h d = omega (arith, trail_length x n)
