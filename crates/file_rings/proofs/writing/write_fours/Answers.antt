-- `write_fours` meets its contract. Assumes nothing.
use mathlib.Core.Path.{refl}
use native.Mathlib.Omega.{arith}
use Rattle.file_rings.specs.Neighbours.{neighbour_bytes}
use Rattle.file_format.proofs.Blocks.{from_none, fours_next, fours_last}
use Rattle.file_rings.proofs.writing.write_fours.Goals as goal

pub loop-i-init : goal.loop-i-init
loop-i-init c = record { most = omega arith; whole = refl; put = from_none (neighbour_bytes c.args.ring.now) 4 (omega arith) }

pub loop-i-preserved : goal.loop-i-preserved
loop-i-preserved c = record {
  most = omega arith;
  whole = omega arith;
  put = fours_next (neighbour_bytes c.args.ring.now) 2 (λ i. refl) c.loop-i.i c.loop-i.auto.i c.loop-i.invariant.put c.write_four.ensures (omega arith);
}

pub returns-2 : goal.returns-2
returns-2 c = fours_last (neighbour_bytes c.args.ring.now) 2 (λ i. refl) c.loop-i.i _ c.loop-i.auto.i c.loop-i.invariant.put c.write_four.ensures (omega arith) (omega arith)
