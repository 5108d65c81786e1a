-- `put_vertex` meets its contract. Assumes nothing.
use native.Mathlib.Omega.{arith}
use Rattle.off_lines.proofs.Writing.{vertex_length, vertex_written}
use Rattle.off_lines.proofs.put_vertex.Goals as goal

pub put_coordinate-after_x-requires-clause-last_in_bounds : goal.put_coordinate-after_x-requires-clause-last_in_bounds
put_coordinate-after_x-requires-clause-last_in_bounds c = omega (arith, vertex_length c.args.positions.now c.args.v)

pub put_coordinate-after_y-requires-clause-last_in_bounds : goal.put_coordinate-after_y-requires-clause-last_in_bounds
put_coordinate-after_y-requires-clause-last_in_bounds c = omega (arith, vertex_length c.args.positions.now c.args.v)

pub put_coordinate-requires-clause-last_in_bounds : goal.put_coordinate-requires-clause-last_in_bounds
put_coordinate-requires-clause-last_in_bounds c = omega (arith, vertex_length c.args.positions.now c.args.v)

pub returns : goal.returns
returns c = vertex_written _ _ c.put_coordinate-after_x.ensures c.put_coordinate-after_y.ensures c.put_coordinate.ensures
