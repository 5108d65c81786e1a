-- `write_old_ring` meets its contract. Assumes nothing.
use Prim.Native.Nat.{suc, ◌≤◌}
use mathlib.Core.Path.{sym, ap, ◌∙◌}
use lib.ListN.{get_or}
use native.Mathlib.Omega.{arith}
use Rattle.mesh.specs.Numbering.{below}
use Rattle.rings.proofs.Tables.{put_nothing}
use Rattle.loop_points.proofs.OldRings.{old_asks, old_step}
use Rattle.loop_sweep.proofs.Whole.{part_ring, old_end_at}
use Rattle.loop_sweep.proofs.vertices.write_old_ring.Goals as goal

pub loop-k-init : goal.loop-k-init
loop-k-init c = sym (put_nothing _ _)

pub middle_of-requires : goal.middle_of-requires
middle_of-requires c =
    let inv = c.loop-k.invariant in
    let l = c.loop-k-test.true in
    let b : c.loop-k.k ≤ get_or c.args.valences.now c.args.p 0 = omega arith in
    let a = old_asks c.requires.ready c.requires.p_lt_count b inv (omega arith) _ c.requires.start_value c.requires.has_old in
    let e = part_ring c.requires.ready c.args.p c.loop-k.k c.requires.p_lt_count (omega arith) inv in
    record { ready = a.0; p_lt_count = c.requires.p_lt_count; n_value = c.requires.n_value; k_lt_n = l; start_value = a.1.1.1.0; low_value = c.requires.low_value ∙ ap (below (suc c.args.p)) (sym e); has_old = a.1.1.1.1 }

pub overflow_cast-rings : goal.overflow_cast-rings
overflow_cast-rings c = omega (arith, c.middle_of.ensures.upper_bound)

pub overflow_add-rings : goal.overflow_add-rings
overflow_add-rings c = omega (arith, c.requires.ready.most _ c.requires.p_lt_count)

pub offset_bounds-rings-a : goal.offset_bounds-rings-a
offset_bounds-rings-a c = omega (arith, c.requires.ready.most _ c.requires.p_lt_count)

pub bounds-rings-a : goal.bounds-rings-a
bounds-rings-a c = omega (arith, c.requires.ready.most _ c.requires.p_lt_count)

pub loop-k-preserved : goal.loop-k-preserved
loop-k-preserved c =
    let inv = c.loop-k.invariant in
    let l = c.loop-k-test.true in
    let b : c.loop-k.k ≤ get_or c.args.valences.now c.args.p 0 = omega arith in
    old_step c.requires.ready c.requires.p_lt_count b inv (omega arith) _ c.middle_of.ensures.value

pub write_unused-requires : goal.write_unused-requires
write_unused-requires c =
    record { most_valence_in_bounds = omega arith; used_le_most_valence = omega (arith, c.requires.ready.most _ c.requires.p_lt_count) }

pub returns : goal.returns
returns c =
    let inv = c.loop-k.invariant in
    old_end_at c.requires.ready c.args.p c.requires.p_lt_count c.args.n c.requires.n_value c.loop-k.k (omega arith) inv c.loop-k-test.false c.write_unused.ensures
