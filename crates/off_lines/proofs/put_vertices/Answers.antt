-- `put_vertices` meets its contract. Assumes nothing.
use native.Mathlib.Omega.{arith}
use Rattle.off_lines.specs.Written.{line_of}
use Rattle.off_lines.proofs.Writing.{written_none, written_length, lines_more, line_fits}
use Rattle.off_lines.proofs.put_vertices.Goals as goal

pub loop-v-init : goal.loop-v-init
loop-v-init c = written_none (omega arith)

pub put_vertex-end-requires-clause-v_in_bounds_2 : goal.put_vertex-end-requires-clause-v_in_bounds_2
put_vertex-end-requires-clause-v_in_bounds_2 c =
    let w = c.loop-v.invariant in
    omega (arith, w.ends, written_length w, line_fits (line_of c.args.positions.now) c.loop-v.v c.args.count c.loop-v-test.true)

pub loop-v-preserved : goal.loop-v-preserved
loop-v-preserved c = lines_more (line_of c.args.positions.now) c.loop-v.v c.loop-v.invariant c.put_vertex-end.ensures
