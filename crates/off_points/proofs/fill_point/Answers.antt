-- `fill_point` meets its contract. Assumes nothing.
use native.Mathlib.Omega.{arith}
use Rattle.std.proofs.lemmas.Int.{ints}
use Rattle.off_points.proofs.Pointing.{row_written}
use Rattle.off_points.proofs.fill_point.Goals as goal

pub returns-clause-put : goal.returns-clause-put
returns-clause-put c =
    row_written c.point_at-line.ensures (grind (arith, ints)) (grind (arith, ints)) (grind (arith, ints)) c.requires.v_in_bounds
