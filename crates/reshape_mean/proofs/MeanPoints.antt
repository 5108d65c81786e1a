-- A mean of corners: one coordinate as the mask of one part of each, and that the corners are vertices. Assumes nothing.
use mathlib.Core.Path.{◌≡◌, sym, ap, ◌∙◌}
use mathlib.Core.List.{List, [], ◌∷◌}
use Prim.Native.Nat.{ℕ, zero, suc, ◌*◌, ◌<◌}
use native.Mathlib.Nat.{mul_comm, not-suc-le-zero}
use native.Mathlib.Omega.{arith}
use lib.IntN.{ℤ, pos, sub_ℕ, one, *ℤ_comm, *ℤ-one}
use lib.ListN.{length, get_or}
use mir.Syntax.{w32}
use mir.Val.{to_z, of_z}
use Rattle.steps.specs.Round.{rounded}
use Rattle.steps.specs.Mask.{by_mask}
use Rattle.units.specs.Coordinate.{InRange, offset}
use Rattle.units.specs.Points.{ring_sum}
use Rattle.units.proofs.Coordinates.{mean_is}
use Rattle.units.proofs.Masks.{ring_sum_lem}
use Rattle.loop_points.specs.Level.{AllBelow, SumOf}
use Rattle.reshape.specs.Mean.{mean_mask}

-- the corners' sum, divided by their number
mean_mask_lem : (at : ℕ → ℤ) (l : List ℕ) → by_mask (mean_mask l) at ≡ rounded (ring_sum at l) (length l)
unfolding by_mask one
mean_mask_lem at l = ap (λ (z : ℤ). rounded z (length l)) (ring_sum_lem 1 at l ∙ *ℤ_comm (pos 1) (ring_sum at l) ∙ *ℤ-one (ring_sum at l))

-- what a call of `mean` gives
pub mean_coordinate : {at : ℕ → ℤ} {l : List ℕ} {s : ℕ} {r : ℤ} → SumOf l at s → (r ≡ rounded (sub_ℕ s (offset * length l)) (length l)) × InRange r
    → to_z w32 (of_z w32 r) ≡ by_mask (mean_mask l) at
mean_coordinate {at} {l} w h = (mean_is offset (length l) (mul_comm (length l) offset) w.sum h).0 ∙ sym (mean_mask_lem at l)

-- ---- corners that are vertices, one after the other

pub none_below : {n : ℕ} → AllBelow n []
none_below = record { below = λ i h. absurd (not-suc-le-zero h) }

pub corner_below : {n x : ℕ} {l : List ℕ} → x < n → AllBelow n l → AllBelow n (x ∷ l)
corner_below {n} {x} {l} h b = record { below = go }
  where
    go : (i : ℕ) → i < length (x ∷ l) → get_or (x ∷ l) i 0 < n
    go zero g = h
    go (suc i) g = b.below i (omega arith)
