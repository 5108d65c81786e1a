-- `write_each` meets its contract. Assumes nothing.
use native.Mathlib.Omega.{arith}
use Rattle.file_rings.specs.Neighbours.{neighbour_bytes}
use Rattle.file_format.proofs.Blocks.{rows_none, rows_next}
use Rattle.file_rings.proofs.RingWritten.{length_neighbour_bytes}
use Rattle.file_rings.proofs.writing.write_each.Goals as goal

pub loop-i-init : goal.loop-i-init
loop-i-init c = rows_none (neighbour_bytes c.args.ring.now) (omega arith)

pub loop-i-preserved : goal.loop-i-preserved
loop-i-preserved c =
    let r = c.args.ring.now in
    rows_next (neighbour_bytes r) c.loop-i.i c.loop-i.invariant c.put_two.ensures (omega (arith, length_neighbour_bytes r c.loop-i.i))
