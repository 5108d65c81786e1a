-- `put_vertices` meets its contract. Assumes nothing.
use native.Mathlib.Omega.{arith}
use Rattle.listing_lines.specs.Lines.{vertex_line}
use Rattle.numerals.proofs.Writing.{wrote_none, rows_more}
use Rattle.listing_lines.proofs.put_vertices.Goals as goal

pub loop-j-init : goal.loop-j-init
loop-j-init c = wrote_none (omega arith)

pub loop-j-preserved : goal.loop-j-preserved
loop-j-preserved c =
    let a = c.args in rows_more (vertex_line a.valences.now a.positions.now a.base) _ 108 c.loop-j.invariant c.put_vertex-end.ensures
