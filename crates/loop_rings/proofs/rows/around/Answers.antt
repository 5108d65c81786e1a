-- `around` meets its contract. Assumes nothing.
use mathlib.Core.Path.{ap, ◌∙◌}
use Rattle.mesh.specs.Ring.{place}
use Rattle.loop_points.proofs.Mids.{ready_row, ready_entry, neighbour_lt, back_place, new_places}
use native.Mathlib.Omega.{arith}
use Rattle.loop_rings.proofs.rows.around.Goals as goal

pub overflow_add-q : goal.overflow_add-q
overflow_add-q c = omega (arith, c.requires.ready.most _ c.requires.p_lt_count)

pub offset_bounds-rings-p : goal.offset_bounds-rings-p
offset_bounds-rings-p c = omega (arith, c.requires.ready.most _ c.requires.p_lt_count)

pub bounds-rings-p : goal.bounds-rings-p
bounds-rings-p c = omega (arith, c.requires.ready.most _ c.requires.p_lt_count)

pub overflow_cast-q : goal.overflow_cast-q
overflow_cast-q c =
    let e = ready_entry c.requires.ready _ _ c.requires.i_bound in
    omega (arith, neighbour_lt c.requires.ready _ _ c.requires.p_lt_count c.requires.i_bound _ e)

pub ring_of-requires : goal.ring_of-requires
ring_of-requires c =
    let e = ready_entry c.requires.ready _ _ c.requires.i_bound in
    ready_row c.requires.ready (neighbour_lt c.requires.ready _ _ c.requires.p_lt_count c.requires.i_bound _ e)

pub middle_after-qb-requires : goal.middle_after-qb-requires
middle_after-qb-requires c =
    let e = ready_entry c.requires.ready _ _ c.requires.i_bound in
    let f = c.seek-j.ensures ∙ ap (place c.args.p) c.ring_of.ensures.result_value in
    record { ready = c.requires.ready; v_lt_count = neighbour_lt c.requires.ready _ _ c.requires.p_lt_count c.requires.i_bound _ e; i_bound = back_place c.requires.ready _ _ c.requires.p_lt_count c.requires.i_bound _ e _ f; has_old = c.requires.has_old }

pub middle_before-qa-requires : goal.middle_before-qa-requires
middle_before-qa-requires c =
    let e = ready_entry c.requires.ready _ _ c.requires.i_bound in
    let f = c.seek-j.ensures ∙ ap (place c.args.p) c.ring_of.ensures.result_value in
    record { ready = c.requires.ready; v_lt_count = neighbour_lt c.requires.ready _ _ c.requires.p_lt_count c.requires.i_bound _ e; i_bound = back_place c.requires.ready _ _ c.requires.p_lt_count c.requires.i_bound _ e _ f; has_old = c.requires.has_old }

pub overflow_cast-result-2 : goal.overflow_cast-result-2
overflow_cast-result-2 c =
    let e = ready_entry c.requires.ready _ _ c.requires.i_bound in
    omega (arith, neighbour_lt c.requires.ready _ _ c.requires.p_lt_count c.requires.i_bound _ e)

pub returns : goal.returns
returns c =
    let e = ready_entry c.requires.ready _ _ c.requires.i_bound in
    let f = c.seek-j.ensures ∙ ap (place c.args.p) c.ring_of.ensures.result_value in
    new_places c.requires.ready _ _ c.requires.p_lt_count c.requires.i_bound _ e _ f _ _ _ _ c.middle_before-pb.ensures c.middle_after-qb.ensures c.middle_before-qa.ensures c.middle_after-pa.ensures
