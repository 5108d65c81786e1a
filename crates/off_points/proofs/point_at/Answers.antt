-- `point_at` meets its contract. Assumes nothing.
use native.Mathlib.Omega.{arith}
use Rattle.std.proofs.lemmas.Int.{ints}
use Rattle.off_points.proofs.Pointing.{first_there, second_there, third_there, point_read}
use Rattle.off_points.proofs.point_at.Goals as goal

pub read_unit-x-requires : goal.read_unit-x-requires
read_unit-x-requires c = first_there c.requires

pub read_unit-y-requires : goal.read_unit-y-requires
read_unit-y-requires c = second_there c.requires c.read_unit-x.ensures.next_value

pub read_unit-z-requires : goal.read_unit-z-requires
read_unit-z-requires c = third_there c.requires c.read_unit-x.ensures.next_value c.read_unit-y.ensures.next_value

pub returns : goal.returns
returns c =
    point_read c.requires c.read_unit-x.ensures.next_value c.read_unit-y.ensures.next_value (grind (arith, ints)) (grind (arith, ints)) (grind (arith, ints))
    c.read_unit-z.ensures.next_value
