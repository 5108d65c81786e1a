-- `write_unused` meets its contract. Assumes nothing.
use native.Mathlib.Omega.{arith}
use Rattle.rings.proofs.Blocks.{part_filled}
use Rattle.rings.proofs.table.write_unused.Goals as goal

pub returns : goal.returns
returns c = part_filled _ _ _ _ _ (omega arith) c.loop-u.auto.u-items c.loop-u-test.false c.loop-u.invariant _ (omega arith)
