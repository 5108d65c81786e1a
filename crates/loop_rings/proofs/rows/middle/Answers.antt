-- `middle` meets its contract. Assumes nothing.
use mathlib.Core.Path.{ap, ◌∙◌}
use lib.ListN.{get_or}
use Rattle.mesh.specs.Ring.{place}
use Rattle.loop_points.proofs.Mids.{ready_row, ready_place, neighbour_lt, counted_mid, counted_small, back_place, copied_mid}
use native.Mathlib.Omega.{arith}
use Rattle.loop_rings.proofs.rows.middle.Goals as goal

pub ring_of-ring-requires : goal.ring_of-ring-requires
ring_of-ring-requires c = ready_row c.requires.ready c.requires.p_lt_count

pub overflow_cast-q : goal.overflow_cast-q
overflow_cast-q c = omega (arith, c.type_inv.ring c.args.i)

pub overflow_add-result : goal.overflow_add-result
overflow_add-result c =
    let e = ap (λ t. get_or t c.args.i 0) c.ring_of-ring.ensures.result_value in
    omega (arith, counted_small c.requires.ready _ _ c.requires.p_lt_count c.requires.i_bound _ e c.if-p-q.true _ c.requires.start_value)

pub overflow_add-result-then-p-q : goal.overflow_add-result-then-p-q
overflow_add-result-then-p-q c =
    let e = ap (λ t. get_or t c.args.i 0) c.ring_of-ring.ensures.result_value in
    omega (arith, (counted_mid c.requires.ready _ _ c.requires.p_lt_count c.requires.i_bound _ e c.if-p-q.true _ c.ring_of-ring.ensures.result_value _ _ c.requires.start_value c.rank.ensures.value).1)

pub returns-then-p-q : goal.returns-then-p-q
returns-then-p-q c =
    let t = let e = ap (λ t. get_or t c.args.i 0) c.ring_of-ring.ensures.result_value in
    counted_mid c.requires.ready _ _ c.requires.p_lt_count c.requires.i_bound _ e c.if-p-q.true _ c.ring_of-ring.ensures.result_value _ _ c.requires.start_value c.rank.ensures.value in
    record { value = t.0; upper_bound = t.1 }

pub ring_of-requires : goal.ring_of-requires
ring_of-requires c =
    let e = ap (λ t. get_or t c.args.i 0) c.ring_of-ring.ensures.result_value in
    ready_row c.requires.ready (neighbour_lt c.requires.ready _ _ c.requires.p_lt_count c.requires.i_bound _ e)

pub overflow_add-result-3 : goal.overflow_add-result-3
overflow_add-result-3 c =
    let e = ap (λ t. get_or t c.args.i 0) c.ring_of-ring.ensures.result_value in
    let f = c.seek-j.ensures ∙ ap (place c.args.p) c.ring_of.ensures.result_value in
    omega (arith, ready_place c.requires.ready _ _ (neighbour_lt c.requires.ready _ _ c.requires.p_lt_count c.requires.i_bound _ e) (back_place c.requires.ready _ _ c.requires.p_lt_count c.requires.i_bound _ e _ f))

pub offset_bounds-rings-count : goal.offset_bounds-rings-count
offset_bounds-rings-count c =
    let e = ap (λ t. get_or t c.args.i 0) c.ring_of-ring.ensures.result_value in
    let f = c.seek-j.ensures ∙ ap (place c.args.p) c.ring_of.ensures.result_value in
    omega (arith, ready_place c.requires.ready _ _ (neighbour_lt c.requires.ready _ _ c.requires.p_lt_count c.requires.i_bound _ e) (back_place c.requires.ready _ _ c.requires.p_lt_count c.requires.i_bound _ e _ f))

pub bounds-rings-count : goal.bounds-rings-count
bounds-rings-count c =
    let e = ap (λ t. get_or t c.args.i 0) c.ring_of-ring.ensures.result_value in
    let f = c.seek-j.ensures ∙ ap (place c.args.p) c.ring_of.ensures.result_value in
    ready_place c.requires.ready _ _ (neighbour_lt c.requires.ready _ _ c.requires.p_lt_count c.requires.i_bound _ e) (back_place c.requires.ready _ _ c.requires.p_lt_count c.requires.i_bound _ e _ f)

pub overflow_cast-result : goal.overflow_cast-result
overflow_cast-result c =
    let e = ap (λ t. get_or t c.args.i 0) c.ring_of-ring.ensures.result_value in
    let f = c.seek-j.ensures ∙ ap (place c.args.p) c.ring_of.ensures.result_value in
    omega (arith, (copied_mid c.requires.ready _ _ c.requires.p_lt_count c.requires.i_bound _ e _ f c.if-p-q.false c.requires.has_old).1)

pub returns : goal.returns
returns c =
    let t = let e = ap (λ t. get_or t c.args.i 0) c.ring_of-ring.ensures.result_value in
    let f = c.seek-j.ensures ∙ ap (place c.args.p) c.ring_of.ensures.result_value in
    copied_mid c.requires.ready _ _ c.requires.p_lt_count c.requires.i_bound _ e _ f c.if-p-q.false c.requires.has_old in
    record { value = t.0; upper_bound = t.1 }
