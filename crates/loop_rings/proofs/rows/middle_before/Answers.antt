-- `middle_before` meets its contract. Assumes nothing.
use Rattle.loop_points.proofs.Mids.{ready_place, old_before}
use native.Mathlib.Omega.{arith}
use Rattle.loop_rings.proofs.rows.middle_before.Goals as goal

pub overflow_cast-valences : goal.overflow_cast-valences
overflow_cast-valences c = omega (arith, c.type_inv.valences c.args.v)

pub overflow_add-result-2 : goal.overflow_add-result-2
overflow_add-result-2 c = omega (arith, ready_place c.requires.ready _ _ c.requires.v_lt_count c.place_before-k.ensures.upper_bound)

pub offset_bounds-rings-count : goal.offset_bounds-rings-count
offset_bounds-rings-count c = omega (arith, ready_place c.requires.ready _ _ c.requires.v_lt_count c.place_before-k.ensures.upper_bound)

pub bounds-rings-count : goal.bounds-rings-count
bounds-rings-count c = ready_place c.requires.ready _ _ c.requires.v_lt_count c.place_before-k.ensures.upper_bound

pub returns : goal.returns
returns c =
    old_before c.requires.ready _ _ c.requires.v_lt_count c.requires.i_bound c.requires.has_old _ c.place_before-k.ensures.value c.place_before-k.ensures.upper_bound
