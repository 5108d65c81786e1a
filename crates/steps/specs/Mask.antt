-- To be believed.
-- A step of refinement seen through its masks: each point of the next level is the rounded weighted mean of some points of the level below.
-- Touched, refined and refreshed are said once, for any family of masks.
-- Assumes nothing.
use Rattle.std.specs.Prelude.{Bool, false, ◌||◌, cond, List, [], ◌∷◌, ℕ, zero, suc, ◌<◌, ℤ, pos, ◌+ℤ◌, ◌*ℤ◌}
use Rattle.mesh.specs.Search.{bit, sum}
use Rattle.steps.specs.Round.{rounded}

-- a weight, and the point of the level below that it is for
pub record Term : Type 0 where
  pub weight : ℤ
  pub source : ℕ

-- w times the point of v
abbrev pub term : ℕ → ℕ → Term
term w v = record { weight = pos w; source = v }

-- the terms of a mask, and what to divide their sum by
pub record Mask : Type 0 where
  pub terms : List Term
  pub divisor : ℕ

-- the sum of weight times source
abbrev pub weighted : List Term → (ℕ → ℤ) → ℤ
weighted [] at = pos 0
weighted (t ∷ ts) at = (t.weight *ℤ at t.source) +ℤ weighted ts at

-- one coordinate of the point that a mask gives, from the level below
unfoldable pub by_mask : Mask → (ℕ → ℤ) → ℤ
by_mask μ at = rounded (weighted μ.terms at) μ.divisor

-- some source of the terms is touched
abbrev pub any_source : (ℕ → Bool) → List Term → Bool
any_source touched [] = false
any_source touched (t ∷ ts) = touched t.source || any_source touched ts

-- each source of the terms is below n
abbrev pub SourcesBelow : ℕ → List Term → Type 0
SourcesBelow n [] = Unit {0}
SourcesBelow n (t ∷ ts) = (t.source < n) × SourcesBelow n ts

-- how many points level k has, and the mask of point x of level k + 1
pub record Steps : Type 0 where
  pub size : ℕ → ℕ
  pub mask : ℕ → ℕ → Mask

-- a mask names points of the level below only
abbrev pub Grounded : Steps → Type 0
Grounded S = (k x : ℕ) → x < S.size (suc k) → SourcesBelow (S.size k) (S.mask k x).terms

-- the touched points ("Moves"): the control vertices named; and above, those with a source that is touched below
unfoldable pub touched : Steps → (ℕ → Bool) → ℕ → ℕ → Bool
touched S named zero v = named v
touched S named (suc k) x = any_source (touched S named k) (S.mask k x).terms

-- the touched points of the levels below n
unfoldable pub touched_count : Steps → (ℕ → Bool) → ℕ → ℕ
touched_count S named n = sum (λ k. sum (λ x. bit (touched S named k x)) (S.size k)) n

module _ (S : Steps) where
  -- every level by its masks, from the control points
  unfoldable pub refined : (ℕ → ℤ) → ℕ → ℕ → ℤ
  refined control zero v = control v
  refined control (suc k) x = by_mask (S.mask k x) (refined control k)

  -- a refresh ("Moves"): the control points are given; above, a touched point is set by its mask from the refreshed level below, and any other keeps what it holds
  unfoldable pub refreshed : (ℕ → Bool) → (ℕ → ℕ → ℤ) → (ℕ → ℤ) → ℕ → ℕ → ℤ
  refreshed named held control zero v = control v
  refreshed named held control (suc k) x = cond (touched S named (suc k) x) (by_mask (S.mask k x) (refreshed named held control k)) (held (suc k) x)
