-- `put_ring` meets its contract. Assumes nothing.
use native.Mathlib.Omega.{arith}
use mathlib.Core.Path.{refl}
use lib.ListN.{length}
use Rattle.file_format.proofs.Blocks.{by_fours}
use Rattle.file_rings.specs.Neighbours.{neighbour_bytes}
use Rattle.file_rings.proofs.writing.put_ring.Goals as goal

pub returns-then-n-lt4 : goal.returns-then-n-lt4
returns-then-n-lt4 c = c.write_each.ensures

pub returns-else-n-lt4 : goal.returns-else-n-lt4
returns-else-n-lt4 c =
    let r = c.args.ring.now in
    by_fours (neighbour_bytes r) 2 (λ i. refl) (length r) c.if-n-lt4.false c.write_four.ensures (omega arith) c.write_fours.ensures refl c.write_four-else-n-lt4.ensures refl
