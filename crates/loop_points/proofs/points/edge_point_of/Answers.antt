-- `edge_point_of` meets its contract. Assumes nothing.
use Rattle.loop_points.proofs.PointSums.{read_x, read_y, read_z, here_x, here_y, here_z, read_in, edge_coordinate, point_by_lem}
use Rattle.loop_points.proofs.points.edge_point_of.Goals as goal

pub edge_point-requires : goal.edge_point-requires
edge_point-requires c =
    let n = c.requires.near in
    record { fact_1 = read_in (here_x n c.requires.p_lt_count_1 c.requires.here_value); fact_2 = read_in (read_x n c.requires.p_lt_count_2); fact_3 = read_in (read_x n c.requires.p_lt_count_3); fact_4 = read_in (read_x n c.requires.p_lt_count_4) }

pub edge_point-requires-2 : goal.edge_point-requires-2
edge_point-requires-2 c =
    let n = c.requires.near in
    record { fact_1 = read_in (here_y n c.requires.p_lt_count_1 c.requires.here_value); fact_2 = read_in (read_y n c.requires.p_lt_count_2); fact_3 = read_in (read_y n c.requires.p_lt_count_3); fact_4 = read_in (read_y n c.requires.p_lt_count_4) }

pub edge_point-requires-3 : goal.edge_point-requires-3
edge_point-requires-3 c =
    let n = c.requires.near in
    record { fact_1 = read_in (here_z n c.requires.p_lt_count_1 c.requires.here_value); fact_2 = read_in (read_z n c.requires.p_lt_count_2); fact_3 = read_in (read_z n c.requires.p_lt_count_3); fact_4 = read_in (read_z n c.requires.p_lt_count_4) }

pub returns : goal.returns
returns c =
    let n = c.requires.near in
    let here = c.requires.here_value in
    let p = c.requires.p_lt_count_1 in
    let q = c.requires.p_lt_count_2 in
    let a = c.requires.p_lt_count_3 in
    let b = c.requires.p_lt_count_4 in
    let x = edge_coordinate (here_x n p here) (read_x n q) (read_x n a) (read_x n b) c.edge_point.ensures in
    let y = edge_coordinate (here_y n p here) (read_y n q) (read_y n a) (read_y n b) c.edge_point-2.ensures in
    let z = edge_coordinate (here_z n p here) (read_z n q) (read_z n a) (read_z n b) c.edge_point-3.ensures in
    record { value = point_by_lem _ c.args.positions.now _ _ _ x.0 y.0 z.0; in_range = (x.1, y.1, z.1) }
