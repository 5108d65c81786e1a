use Rattle.rings.specs.Table.{gather}
use Rattle.file_format.specs.Layout.{neighbour_at}
use Rattle.file_format.specs.Blocks.{Put}
use Rattle.file_rings.proofs.reading.read_each.Given as goal

abbrev pub invariant-loop-i : goal.invariant-loop-i
invariant-loop-i l = Put l.initial.rings l.to (gather (neighbour_at l.bytes l.from) l.i) l.rings
