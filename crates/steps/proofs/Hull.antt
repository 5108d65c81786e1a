-- A rounded mean stays between whole numbers that bound what it is taken of; so every level of any family of means does.
-- Assumes nothing.
use mathlib.Core.Path.{◌≡◌, refl, sym, ap₂, subst}
use mathlib.Core.List.{List, [], ◌∷◌}
use Prim.Native.Nat.{ℕ, zero, suc, ◌+◌, ◌*◌, ◌≤◌, ◌<◌}
use native.Mathlib.Nat.{mul-mod_right}
use native.Mathlib.Omega.{arith}
use lib.IntN.{ℤ, pos, sub_ℕ, nat_abs, ◌+ℤ◌, ◌*ℤ◌}
use lib.Signed.{◌≤ℤ◌}
use Rattle.steps.specs.Mask.{Term, Mask, weighted, SourcesBelow, by_mask, Steps, Grounded, refined}
use Rattle.steps.proofs.Lifted.{depth, lifted, lifted_is, depth_falls, lifted_climbs, above_lifted, below_lifted, near_both, both_near}
use Rattle.steps.proofs.Means.{Between, IsMean, mean_of, mean_offset, mean_between}

-- z lies from lo to hi, ends included
pub record Within (lo hi z : ℤ) : Type 0 where
  pub low : lo ≤ℤ z
  pub high : z ≤ℤ hi

-- each source of the terms does
abbrev pub SourcesWithin : ℤ → ℤ → (ℕ → ℤ) → List Term → Type 0
SourcesWithin lo hi at [] = Unit {0}
SourcesWithin lo hi at (t ∷ ts) = Within lo hi (at t.source) × SourcesWithin lo hi at ts

-- the offset that serves for both bounds, which is even
offset : ℤ → ℤ → ℕ
offset lo hi = 2 * (depth lo + depth hi)

module _ (lo hi : ℤ) where
  within_lifted : (z : ℤ) → Within lo hi z → (lifted (offset lo hi) lo ≤ lifted (offset lo hi) z) × ((lifted (offset lo hi) z ≤ lifted (offset lo hi) hi) × (z ≡ sub_ℕ (lifted (offset lo hi) z) (offset lo hi)))
  unfolding offset
  within_lifted z w = (
    lifted_climbs (offset lo hi) lo z w.low,
    (lifted_climbs (offset lo hi) z hi w.high, lifted_is (offset lo hi) z (let d = depth_falls lo z w.low in omega arith)),
  )

  lifted_within : (m : ℕ) → lifted (offset lo hi) lo ≤ m → m ≤ lifted (offset lo hi) hi → Within lo hi (sub_ℕ m (offset lo hi))
  unfolding offset
  lifted_within m l h = record { low = above_lifted (offset lo hi) m lo (omega arith) l; high = below_lifted (offset lo hi) m hi (omega arith) h }

  module _ (at : ℕ → ℤ) where
    sources_between : (ts : List Term) → SourcesWithin lo hi at ts
        → Between (lifted (offset lo hi) lo) (lifted (offset lo hi) hi) (λ v. lifted (offset lo hi) (at v)) ts
    sources_between [] b = tt
    sources_between (t ∷ ts) b = let w = within_lifted (at t.source) b.0 in (w.0, (w.1.0, sources_between ts b.1))

    sources_lifted : (ts : List Term) → SourcesWithin lo hi at ts → weighted ts at ≡ weighted ts (λ v. sub_ℕ (lifted (offset lo hi) (at v)) (offset lo hi))
    sources_lifted [] b = refl
    sources_lifted (t ∷ ts) b = ap₂ (λ z s. (t.weight *ℤ z) +ℤ s) (within_lifted (at t.source) b.0).1.1 (sources_lifted ts b.1)

    -- a mean of numbers within bounds is within them
    pub mean_within_sources : (μ : Mask) → IsMean μ → SourcesWithin lo hi at μ.terms → Within lo hi (by_mask μ at)
    unfolding by_mask offset
    mean_within_sources μ m b =
        let o : ℕ = offset lo hi in
        let c : ℕ → ℕ = λ v. lifted o (at v) in
        let w = mean_between c μ m.positive m.mean (lifted o lo) (lifted o hi) (sources_between μ.terms b) in
        rw (sources_lifted μ.terms b)
        (subst (Within lo hi) (sym (mean_offset c μ m.positive m.mean o (mul-mod_right 2 (depth lo + depth hi)) m.nonneg)) (lifted_within (mean_of c μ m.positive m.mean) w.0 w.1))

  -- where a whole level is within them
  module _ (n : ℕ) (at : ℕ → ℤ) (within : (v : ℕ) → v < n → Within lo hi (at v)) where
    sources_within : (ts : List Term) → SourcesBelow n ts → SourcesWithin lo hi at ts
    sources_within [] b = tt
    sources_within (t ∷ ts) b = (within t.source b.0, sources_within ts b.1)

    pub mean_within : (μ : Mask) → IsMean μ → SourcesBelow n μ.terms → Within lo hi (by_mask μ at)
    mean_within μ m b = mean_within_sources at μ m (sources_within μ.terms b)

-- the range of numbers at most so far from 0
pub near_within : (most : ℕ) (z : ℤ) → nat_abs z ≤ most → Within (sub_ℕ 0 most) (pos most) z
near_within most z h = let b = near_both most z h in record { low = b.0; high = b.1 }

pub within_near : (most : ℕ) (z : ℤ) → Within (sub_ℕ 0 most) (pos most) z → nat_abs z ≤ most
within_near most z w = both_near most z w.low w.high

-- every level of means
pub levels_within : (S : Steps) → Grounded S → ((k x : ℕ) → x < S.size (suc k) → IsMean (S.mask k x)) → (lo hi : ℤ) (control : ℕ → ℤ)
    → ((v : ℕ) → v < S.size 0 → Within lo hi (control v)) → (k x : ℕ) → x < S.size k → Within lo hi (refined S control k x)
unfolding refined
levels_within S grounded means lo hi control within zero v h = within v h
levels_within S grounded means lo hi control within (suc k) x h =
    mean_within lo hi (S.size k) (refined S control k) (levels_within S grounded means lo hi control within k) (S.mask k x) (means k x h) (grounded k x h)
