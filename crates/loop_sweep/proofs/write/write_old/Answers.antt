-- `write_old` meets its contract. Assumes nothing.
use Prim.Native.Nat.{◌+◌, ◌≤◌}
use mathlib.Core.Path.{◌≡◌, refl, sym, ap, ◌∙◌}
use native.Mathlib.Omega.{arith}
use Rattle.mesh.specs.Mesh.{edges}
use Rattle.loop_step.specs.Loop.{vertex_mask}
use Rattle.rings.specs.Table.{lent, ring_of, rows}
use Rattle.loop_points.specs.Level.{Levels, start_of, point_by}
use Rattle.loop_points.proofs.NextLevel.{start_none, start_end}
use Rattle.loop_sweep.proofs.Done.{done_none, done_levels, done_start, done_has, done_at, done_old, Spot, spot}
use Rattle.loop_sweep.proofs.write.write_old.Goals as goal

pub loop-p-init : goal.loop-p-init
loop-p-init c =
    let s = c.args in record { counted = sym (start_none s.count (lent s.valences.now s.rings.now)); done = done_none s.count (lent s.valences.now s.rings.now) s.positions.now }

pub write_vertex-start-requires : goal.write_vertex-start-requires
write_vertex-start-requires c =
    let most : let s = c.args in c.loop-p.p ≤ s.count + edges (rows s.count (lent s.valences.now s.rings.now)) = omega arith in
    let levels : Levels c.args.count (lent c.loop-p.valences c.loop-p.rings) c.loop-p.positions = done_levels c.requires c.loop-p.invariant.done most in
    let L = c.requires in
    record { levels = levels; p_lt_count = c.loop-p-test.true; start_value = c.loop-p.invariant.counted ∙ sym (done_start L c.loop-p.invariant.done most c.loop-p.p); has_old = done_has L c.loop-p.invariant.done most c.loop-p.p (omega arith) (omega arith) }

pub offset_bounds-valences-p : goal.offset_bounds-valences-p
offset_bounds-valences-p c =
    let most : let s = c.args in c.loop-p.p ≤ s.count + edges (rows s.count (lent s.valences.now s.rings.now)) = omega arith in
    let levels : Levels c.args.count (lent c.loop-p.valences c.loop-p.rings) c.loop-p.positions = done_levels c.requires c.loop-p.invariant.done most in
    let room : Spot c.args.count c.loop-p.p (lent c.loop-p.valences c.loop-p.rings) c.loop-p.positions = spot levels c.loop-p.p (omega arith) in
    let k = room in omega arith

pub bounds-valences-p : goal.bounds-valences-p
bounds-valences-p c =
    let most : let s = c.args in c.loop-p.p ≤ s.count + edges (rows s.count (lent s.valences.now s.rings.now)) = omega arith in
    let levels : Levels c.args.count (lent c.loop-p.valences c.loop-p.rings) c.loop-p.positions = done_levels c.requires c.loop-p.invariant.done most in
    let room : Spot c.args.count c.loop-p.p (lent c.loop-p.valences c.loop-p.rings) c.loop-p.positions = spot levels c.loop-p.p (omega arith) in
    let k = room in omega arith

pub overflow_add-valences : goal.overflow_add-valences
overflow_add-valences c =
    let most : let s = c.args in c.loop-p.p ≤ s.count + edges (rows s.count (lent s.valences.now s.rings.now)) = omega arith in
    let levels : Levels c.args.count (lent c.loop-p.valences c.loop-p.rings) c.loop-p.positions = done_levels c.requires c.loop-p.invariant.done most in
    let room : Spot c.args.count c.loop-p.p (lent c.loop-p.valences c.loop-p.rings) c.loop-p.positions = spot levels c.loop-p.p (omega arith) in
    let k = room in omega arith

pub offset_bounds-valences-count : goal.offset_bounds-valences-count
offset_bounds-valences-count c =
    let most : let s = c.args in c.loop-p.p ≤ s.count + edges (rows s.count (lent s.valences.now s.rings.now)) = omega arith in
    let levels : Levels c.args.count (lent c.loop-p.valences c.loop-p.rings) c.loop-p.positions = done_levels c.requires c.loop-p.invariant.done most in
    let room : Spot c.args.count c.loop-p.p (lent c.loop-p.valences c.loop-p.rings) c.loop-p.positions = spot levels c.loop-p.p (omega arith) in
    let k = room in omega arith

pub bounds-valences-count : goal.bounds-valences-count
bounds-valences-count c =
    let most : let s = c.args in c.loop-p.p ≤ s.count + edges (rows s.count (lent s.valences.now s.rings.now)) = omega arith in
    let levels : Levels c.args.count (lent c.loop-p.valences c.loop-p.rings) c.loop-p.positions = done_levels c.requires c.loop-p.invariant.done most in
    let room : Spot c.args.count c.loop-p.p (lent c.loop-p.valences c.loop-p.rings) c.loop-p.positions = spot levels c.loop-p.p (omega arith) in
    let k = room in omega arith

pub loop-p-preserved : goal.loop-p-preserved
loop-p-preserved c =
    let most : let s = c.args in c.loop-p.p ≤ s.count + edges (rows s.count (lent s.valences.now s.rings.now)) = omega arith in
    let point = point_by (vertex_mask c.loop-p.p (ring_of (lent c.loop-p.valences c.loop-p.rings) c.loop-p.p)) c.loop-p.positions in
    record { counted = c.write_vertex-start.ensures.value ∙ done_start c.requires c.loop-p.invariant.done most (c.loop-p.p + 1); done = done_old c.requires c.loop-p.invariant.done most (omega arith) c.loop-p-test.true point refl refl c.write_vertex-start.ensures.rings_after c.write_vertex-start.ensures.positions_after }

pub returns : goal.returns
returns c =
    let a = c.args in
    let e : c.loop-p.p ≡ a.count = omega arith in
    let d = done_at e c.loop-p.invariant.done in
    record { value = c.loop-p.invariant.counted ∙ ap (start_of a.count (lent a.valences.now a.rings.now)) e ∙ start_end a.count (lent a.valences.now a.rings.now) c.requires.ready.sound; valences_after = d.valences; rings_after = d.rings; positions_after = d.positions }
