-- `floats::mm_of` meets its contract. Assumes nothing.
use mathlib.Core.Path.{◌≡◌, ap, ◌∙◌}
use mathlib.Core.Bool.{false}
use lib.IntN.{ℤ, negsuc}
use lib.Ieee.{fin, binary64, of_bits, of_int, mul}
use mir.Syntax.{w32}
use mir.Val.{to_z, of_z}
use Rattle.units.specs.Coordinate.{InRange}
use Rattle.millimetres.specs.Millimetres.{mm_unit}
use Rattle.units.proofs.Coordinates.{there}
use Rattle.millimetres.proofs.FloatsInUnits.{mm_mul}
use Rattle.millimetres.proofs.MoveCases.{mm_is}
use Rattle.millimetres.proofs.floats.mm_of.Goals as goal

one : (z : ℤ) → InRange z → mul binary64 (of_int binary64 (to_z w32 (of_z w32 z))) (fin false 1 (negsuc 9)) ≡ mm_unit z
one z h = ap (λ (y : ℤ). mul binary64 (of_int binary64 y) (fin false 1 (negsuc 9))) (there z h) ∙ mm_mul z h

pub returns : goal.returns
unfolding of_bits
returns c =
    let p = c.args.p in
    mm_is _ _ _ _ _ _ (one p.x c.requires.fact_1) (one p.y c.requires.fact_2) (one p.z c.requires.fact_3)
