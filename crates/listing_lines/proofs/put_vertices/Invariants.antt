-- The lines of the first j vertices are written.
use Rattle.std.proofs.Common.{◌*◌}
use Rattle.rings.specs.Table.{gather}
use Rattle.listing_lines.specs.Lines.{vertex_line}
use Rattle.numerals.specs.Wrote.{Wrote}
use Rattle.listing_lines.proofs.put_vertices.Given as goal

abbrev pub invariant-loop-j : goal.invariant-loop-j
invariant-loop-j l = Wrote l.initial.text l.at (gather (vertex_line l.valences l.positions l.base) l.j) l.text l.end (l.j * 108)
