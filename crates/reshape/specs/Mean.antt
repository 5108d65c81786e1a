-- To be believed.
-- Where a new vertex lies (document 02, order 1): at the mean of the corners, each coordinate rounded as in refinement.
-- Assumes nothing.
use Rattle.std.specs.Prelude.{List, map, ℕ, ℤ, length}
use Rattle.steps.specs.Mask.{Mask, by_mask, term}

-- one part of each corner, in as many
abbrev pub mean_mask : List ℕ → Mask
mean_mask l = record { terms = map (term 1) l; divisor = length l }

-- one coordinate of the mean of some vertices
unfoldable pub mean_at : List ℕ → (ℕ → ℤ) → ℤ
mean_at l at = by_mask (mean_mask l) at
