-- `ring_point` meets its contract. Assumes nothing.
use mathlib.Core.Path.{refl}
use Rattle.loop_points.proofs.PointSums.{vertex_fits, vertex_coordinate, point_by_lem, read_x, read_y, read_z}
use Rattle.loop_points.proofs.points.ring_point.Goals as goal

pub vertex_point-requires : goal.vertex_point-requires
vertex_point-requires c =
    let t = vertex_fits c.args.ring.now c.requires.in_bounds c.requires.ring_len_bound (read_x c.requires.near c.requires.v_lt_count) c.ring_sums-s.ensures.x in
    record { fact_1 = t.0; fact_2 = t.1.0; fact_3 = t.1.1.0; fact_4 = t.1.1.1 }

pub vertex_point-requires-2 : goal.vertex_point-requires-2
vertex_point-requires-2 c =
    let t = vertex_fits c.args.ring.now c.requires.in_bounds c.requires.ring_len_bound (read_y c.requires.near c.requires.v_lt_count) c.ring_sums-s.ensures.y in
    record { fact_1 = t.0; fact_2 = t.1.0; fact_3 = t.1.1.0; fact_4 = t.1.1.1 }

pub vertex_point-requires-3 : goal.vertex_point-requires-3
vertex_point-requires-3 c =
    let t = vertex_fits c.args.ring.now c.requires.in_bounds c.requires.ring_len_bound (read_z c.requires.near c.requires.v_lt_count) c.ring_sums-s.ensures.z in
    record { fact_1 = t.0; fact_2 = t.1.0; fact_3 = t.1.1.0; fact_4 = t.1.1.1 }

pub returns : goal.returns
returns c =
    let x = vertex_coordinate (read_x c.requires.near c.requires.v_lt_count) refl c.ring_sums-s.ensures.x c.vertex_point.ensures in
    let y = vertex_coordinate (read_y c.requires.near c.requires.v_lt_count) refl c.ring_sums-s.ensures.y c.vertex_point-2.ensures in
    let z = vertex_coordinate (read_z c.requires.near c.requires.v_lt_count) refl c.ring_sums-s.ensures.z c.vertex_point-3.ensures in
    record { value = point_by_lem _ c.args.positions.now _ _ _ x.0 y.0 z.0; in_range = (x.1, y.1, z.1) }
