-- `read_neighbours` meets its contract. Assumes nothing.
use native.Mathlib.Nat.{add-zero}
use native.Mathlib.Omega.{arith}
use mathlib.Core.Path.{refl}
use Rattle.file_format.specs.Layout.{neighbour_at}
use Rattle.file_format.proofs.Blocks.{by_fours}
use Rattle.file_rings.proofs.reading.read_neighbours.Goals as goal

pub returns-then-n-lt4 : goal.returns-then-n-lt4
returns-then-n-lt4 c = c.read_each.ensures

pub returns-else-n-lt4 : goal.returns-else-n-lt4
returns-else-n-lt4 c =
    let a = c.args in
    by_fours (neighbour_at a.bytes.now a.from) 1 (λ i. refl) a.n c.if-n-lt4.false c.read_four.ensures (add-zero a.to) c.read_fours.ensures refl c.read_four-else-n-lt4.ensures (omega arith)
