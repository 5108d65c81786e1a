-- `old_point` meets its contract. Assumes nothing.
use Prim.Native.Nat.{ℕ}
use mathlib.Core.Path.{ap, ◌∙◌}
use mathlib.Core.List.{List}
use Rattle.loop_step.specs.Loop.{vertex_mask}
use Rattle.loop_points.specs.Level.{point_by}
use Rattle.loop_points.proofs.Mids.{ready_row}
use Rattle.loop_points.proofs.PointSums.{ring_all_below, ready_least}
use native.Mathlib.Omega.{arith}
use Rattle.loop_points.proofs.points.old_point.Goals as goal

pub ring_of-requires : goal.ring_of-requires
ring_of-requires c = ready_row c.requires.ready c.requires.v_lt_count

pub ring_point-requires : goal.ring_point-requires
ring_point-requires c =
    let l = c.ring_of.ensures.result_len in
    record { near = c.requires.near; count_le_most_vertices = omega arith; in_bounds = omega (arith, ready_least c.requires.ready c.requires.v_lt_count); ring_len_bound = omega (arith, c.requires.ready.most c.args.v c.requires.v_lt_count); all_below = ring_all_below c.requires.ready c.requires.v_lt_count c.ring_of.result.now c.ring_of.ensures.result_value; v_lt_count = c.requires.v_lt_count }

pub returns : goal.returns
returns c =
    let s = c.args in
    record { value = c.ring_point.ensures.value ∙ ap (λ (t : List ℕ). point_by (vertex_mask s.v t) s.positions.now) c.ring_of.ensures.result_value; in_range = c.ring_point.ensures.in_range }
