-- To be believed.
-- Coordinates in units (section "Tables and numbers"): the range they keep to, and how the code moves them up into the natural numbers.
-- Assumes nothing.
use Rattle.std.specs.Prelude.{Bool, ℕ, ◌+◌, ◌≤◌, ltb, ℤ, nat_abs}
use Rattle.mesh.specs.Limits.{most_units}
use Rattle.steps.specs.Round.{Is}

-- a coordinate is in the range, either end included
abbrev pub InRange : ℤ → Type 0
InRange c = nat_abs c ≤ most_units

-- it is not: as a test
unfoldable pub beyond : ℤ → Bool
beyond c = ltb most_units (nat_abs c)

-- by how much the code moves coordinates up: the least that leaves none of them negative
abbrev pub offset : ℕ
offset = most_units

-- u is the coordinate c moved up by an offset
pub record Biased (offset : ℕ) (c : ℤ) (u : ℕ) : Type 0 where
  pub moved : Is c u offset
  pub small : u ≤ offset + most_units
