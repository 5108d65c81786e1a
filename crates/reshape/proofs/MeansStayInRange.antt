-- The new vertex of an edit lies within all bounds that its corners lie within, so a coordinate never leaves the range
-- (document 02, order 1).
-- Assumes nothing.
use mathlib.Core.List.{List, [], ◌∷◌, map}
use Prim.Native.Nat.{ℕ, ◌≤◌, ◌<◌}
use native.Mathlib.Omega.{arith}
use lib.IntN.{ℤ, pos, sub_ℕ, nat_abs}
use lib.ListN.{length}
use Rattle.mesh.proofs.Rings.{All}
use Rattle.steps.specs.Mask.{term}
use Rattle.steps.proofs.Means.{IsMean, total_ring, nonneg_ring}
use Rattle.steps.proofs.Hull.{Within, SourcesWithin, mean_within_sources, near_within, within_near}
use Rattle.reshape.specs.Mean.{mean_mask, mean_at}

mask_mean : (l : List ℕ) → 0 < length l → IsMean (mean_mask l)
mask_mean l h = record { positive = h; mean = omega (arith, total_ring 1 l); nonneg = nonneg_ring 1 l }

module _ (at : ℕ → ℤ) where
  sources_within : (lo hi : ℤ) (l : List ℕ) → All (λ v. Within lo hi (at v)) l → SourcesWithin lo hi at (map (term 1) l)
  sources_within lo hi [] h = tt
  sources_within lo hi (v ∷ l) h = (h.0, sources_within lo hi l h.1)

  -- bounds that the corners keep
  pub mean_stays_within : (l : List ℕ) → 0 < length l → (lo hi : ℤ) → All (λ v. Within lo hi (at v)) l → Within lo hi (mean_at l at)
  unfolding mean_at
  mean_stays_within l some lo hi h = mean_within_sources lo hi at (mean_mask l) (mask_mean l some) (sources_within lo hi l h)

-- a range around zero that all vertices keep
pub mean_stays_in_range : (n : ℕ) (at : ℕ → ℤ) (l : List ℕ) → 0 < length l → All (λ v. v < n) l
    → (most : ℕ) → ((v : ℕ) → v < n → nat_abs (at v) ≤ most) → nat_abs (mean_at l at) ≤ most
mean_stays_in_range n at l some below most near =
    within_near most (mean_at l at) (mean_stays_within at l some (sub_ℕ 0 most) (pos most) (each l below))
  where
    each : (l : List ℕ) → All (λ v. v < n) l → All (λ v. Within (sub_ℕ 0 most) (pos most) (at v)) l
    each [] h = tt
    each (v ∷ l) h = (near_within most (at v) (near v h.0), each l h.1)
