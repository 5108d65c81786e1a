-- `read_each` meets its contract. Assumes nothing.
use native.Mathlib.Omega.{arith}
use Rattle.file_format.specs.Layout.{neighbour_at}
use Rattle.file_format.proofs.Blocks.{rows_none, rows_next}
use Rattle.file_rings.proofs.RingRead.{length_neighbours, one_is}
use Rattle.file_rings.proofs.reading.read_each.Goals as goal

pub loop-i-init : goal.loop-i-init
loop-i-init c = rows_none (neighbour_at c.args.bytes.now c.args.from) (omega arith)

pub loop-i-preserved : goal.loop-i-preserved
loop-i-preserved c =
    let a = c.args in
    rows_next (neighbour_at a.bytes.now a.from) c.loop-i.i c.loop-i.invariant (one_is c.two_at.ensures.value (omega arith)) (omega (arith, length_neighbours a.bytes.now a.from c.loop-i.i))
