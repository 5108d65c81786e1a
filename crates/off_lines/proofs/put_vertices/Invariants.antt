use Rattle.rings.specs.Table.{gather}
use Rattle.off_lines.specs.Written.{Written, line_of}
use Rattle.off_lines.proofs.put_vertices.Given as goal

abbrev pub invariant-loop-v : goal.invariant-loop-v
invariant-loop-v l = Written l.initial.text l.at (gather (line_of l.positions) l.v) l.text l.end
