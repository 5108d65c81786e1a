-- To be believed.
-- Millimetres as 64-bit floats, and units (section "Moves"): which floats are in range, what they are in units, and what units are in millimetres.
-- Assumes nothing.
use Rattle.std.specs.Prelude.{Bool, true, false, cond, not, ◌&&◌, ℕ, ◌+◌, ◌-◌, ◌*◌, ℤ, pos, neg_ℤ, nat_abs, Float, Option, Some, None}
use Rattle.std.specs.Int.Signed.{non_neg}
use Rattle.std.specs.Float.{nan, inf, fin, binary64}
use Rattle.std.specs.Float.Ieee.{up, down, le, round}
use Rattle.mesh.specs.Limits.{low_millimetres, high_millimetres, units_in_millimetre}
use Rattle.steps.specs.Round.{rounded}
use Rattle.units.specs.declared.Point.{Point}
use Rattle.millimetres.specs.declared.Mm.{Mm}

-- ±k, by a sign as a float has it: true is negative
abbrev pub signed : Bool → ℕ → ℤ
signed true k = neg_ℤ (pos k)
signed false k = pos k

-- t ± k, by the same sign
abbrev pub toward : Bool → ℕ → ℕ → ℕ
toward true t k = t - k
toward false t k = t + k

-- a float from -1024.0 to 1024.0, ends included: no NaN and no infinity is one
unfoldable pub inside : Float → Bool
inside x = le low_millimetres x && le x high_millimetres

-- its units: `fin s m e` is ±m * 2 ^ e, where 2 ^ e is the fraction up e / down e, and the exact value times 1,024 is rounded
unfoldable pub units_of : Float → ℤ
units_of nan = pos 0
units_of (inf s) = pos 0
units_of (fin s m e) = rounded (signed s (m * up e * units_in_millimetre)) (down e)

-- the units of a float, or that it is too far
unfoldable pub units_answer : Float → Option ℤ
units_answer x = cond (inside x) (Some (units_of x)) None

-- z units: the float nearest to z / 1,024, which for a coordinate is that fraction itself
unfoldable pub mm_unit : ℤ → Float
mm_unit z = round binary64 (not (non_neg z)) (nat_abs z) units_in_millimetre

-- a point of units in millimetres
abbrev pub mm_of : Point → Mm
mm_of p = record { x = mm_unit p.x; y = mm_unit p.y; z = mm_unit p.z }
