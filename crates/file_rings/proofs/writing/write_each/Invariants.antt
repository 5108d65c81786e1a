use Rattle.rings.specs.Table.{gather}
use Rattle.file_format.specs.Blocks.{Put}
use Rattle.file_rings.specs.Neighbours.{neighbour_bytes}
use Rattle.file_rings.proofs.writing.write_each.Given as goal

abbrev pub invariant-loop-i : goal.invariant-loop-i
invariant-loop-i l = Put l.initial.file l.at (gather (neighbour_bytes l.ring) l.i) l.file
