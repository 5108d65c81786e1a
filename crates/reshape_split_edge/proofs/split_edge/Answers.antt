-- `split_edge` meets its contract. Assumes nothing.
use native.Mathlib.Omega.{arith}
use Rattle.rings.proofs.Verdicts.{handed_on}
use Rattle.reshape_tables.proofs.CallsAnswered.{split_long, split_done}
use Rattle.reshape_mean.proofs.MeanPoints.{none_below, corner_below}
use Rattle.reshape_split_edge.proofs.EdgeSplitDone.{edge_refused, edge_splittable, edge_place, edge_split}
use Rattle.reshape_split_edge.proofs.split_edge.Goals as goal

pub returns-in_err-p : goal.returns-in_err-p
returns-in_err-p c =
    let t = edge_refused _ _ _ _ _ c.in_err-p.ensures in
    record { value = handed_on c.from_residual.ensures t.0; rings_after = t.1.0; valences_after = t.1.1.0; positions_after = t.1.1.1 }

pub overflow_cast-ends : goal.overflow_cast-ends
overflow_cast-ends c =
    let ready = edge_splittable _ _ _ _ _ c.in_ok-p.ensures in
    let place = edge_place _ _ _ _ _ c.in_ok-p.ensures in
    omega (arith, ready.p_lt, place.new.number)

pub overflow_cast-ends-2 : goal.overflow_cast-ends-2
overflow_cast-ends-2 c =
    let ready = edge_splittable _ _ _ _ _ c.in_ok-p.ensures in
    let place = edge_place _ _ _ _ _ c.in_ok-p.ensures in
    omega (arith, ready.q_lt, place.new.number)

pub mean_point-requires : goal.mean_point-requires
mean_point-requires c =
    let ready = edge_splittable _ _ _ _ _ c.in_ok-p.ensures in
    let place = edge_place _ _ _ _ _ c.in_ok-p.ensures in
    let m = place.new.number in
    record {
      near = place.near;
      count_le_most_vertices = omega arith;
      corners_nonzero = omega arith;
      corners_len_bound = omega arith;
      all_below = corner_below ready.p_lt (corner_below ready.q_lt none_below);
    }

pub set_point-requires : goal.set_point-requires
set_point-requires c =
    let place = edge_place _ _ _ _ _ c.in_ok-p.ensures in
    record { v_le_stack_bound = omega (arith, place.new.number); v_in_bounds = place.point }

pub write_edge_split-requires : goal.write_edge_split-requires
write_edge_split-requires c =
    record { edge_ready = edge_splittable _ _ _ _ _ c.in_ok-p.ensures; new_ready = (edge_place _ _ _ _ _ c.in_ok-p.ensures).new }

pub overflow_add-count : goal.overflow_add-count
overflow_add-count c = omega (arith, (edge_place _ _ _ _ _ c.in_ok-p.ensures).new.number)

pub counts-requires : goal.counts-requires
counts-requires c =
    let split = edge_split _ _ _ _ _ c.in_ok-p.ensures in
    let t = split_long split c.write_edge_split.ensures.rings_after c.write_edge_split.ensures.valences_after in
    record { count_in_bounds = t.0; count_le_most_count = t.1 }

pub returns : goal.returns
returns c =
    let split = edge_split _ _ _ _ _ c.in_ok-p.ensures in
    let t = split_done split c.write_edge_split.ensures.rings_after c.write_edge_split.ensures.valences_after
    c.set_point.ensures c.mean_point.ensures c.counts.ensures in
    record { value = t.0; rings_after = t.1.0; valences_after = t.1.1.0; positions_after = t.1.1.1 }
