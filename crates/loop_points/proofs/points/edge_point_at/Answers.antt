-- `edge_point_at` meets its contract. Assumes nothing.
use Prim.Native.Nat.{ℕ}
use mathlib.Core.Path.{ap₂, ◌∙◌}
use lib.ListN.{get_or}
use Rattle.loop_step.specs.Loop.{edge_mask}
use Rattle.loop_points.specs.Level.{point_by}
use native.Mathlib.Omega.{arith}
use Rattle.loop_points.proofs.points.edge_point_at.Goals as goal

pub overflow_cast-q : goal.overflow_cast-q
overflow_cast-q c = omega (arith, c.type_inv.ring c.args.i)

pub overflow_cast-a : goal.overflow_cast-a
overflow_cast-a c = omega (arith, c.type_inv.ring c.place_after.result)

pub overflow_cast-b : goal.overflow_cast-b
overflow_cast-b c = omega (arith, c.type_inv.ring c.place_before.result)

pub edge_point_of-requires : goal.edge_point_of-requires
edge_point_of-requires c =
    let low = c.requires.all_below.below in
    let q = low c.args.i c.requires.i_in_bounds in
    let a = low c.place_after.result c.place_after.ensures.upper_bound in
    let b = low c.place_before.result c.place_before.ensures.upper_bound in
    record { near = c.requires.near; count_le_most_vertices = c.requires.count_le_most_vertices; here_value = c.requires.here_value; p_lt_count_1 = c.requires.p_lt_count; p_lt_count_2 = q; p_lt_count_3 = a; p_lt_count_4 = b }

pub returns : goal.returns
returns c =
    let s = c.args in
    let ring = s.ring.now in
    record { value = c.edge_point_of.ensures.value ∙ ap₂ (λ (x y : ℕ). point_by (edge_mask s.p (get_or ring s.i 0) (get_or ring x 0) (get_or ring y 0)) s.positions.now) c.place_after.ensures.value c.place_before.ensures.value; in_range = c.edge_point_of.ensures.in_range }
