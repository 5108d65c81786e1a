-- `write_new` meets its contract. Assumes nothing.
use Prim.Native.Nat.{ℕ}
use mathlib.Core.Path.{◌≡◌, subst}
use native.Mathlib.Omega.{arith}
use Rattle.rings.specs.Table.{lent}
use Rattle.loop_halves.specs.Nearer.{Halves, Points, PlacesOfBelow, rings_next, positions_next}
use Rattle.loop_halves.proofs.Targets.{kept_rows, kept_ring, kept_old}
use Rattle.loop_halves.proofs.PointTargets.{points_join, positions_reached}
use Rattle.loop_halves.proofs.HalfRows.{halves_join, rings_reached}
use Rattle.loop_halves.proofs.Steps.{halves_none, points_none, no_vertex, vertex_more}
use Rattle.loop_sweep.proofs.Whole.{held_old, kept_both}
use Rattle.loop_sweep.proofs.write.write_new.Goals as goal

pub loop-p-init : goal.loop-p-init
loop-p-init c =
    let s = c.args in
    record {
      halves = halves_none s.count (lent s.valences.now s.rings.now) (no_vertex s.valences.now);
      points = points_none s.count (lent s.valences.now s.rings.now) s.positions.now (no_vertex s.valences.now);
    }

pub write_around-requires : goal.write_around-requires
write_around-requires c =
    let inv = c.loop-p.invariant in
    record { levels = kept_both c.requires.levels inv.halves.nearer inv.points.nearer; has_old = kept_old c.requires.levels.ready inv.halves.nearer (held_old c.requires.levels.ready c.requires.up_to); p_lt_count = c.loop-p-test.true }

pub loop-p-preserved : goal.loop-p-preserved
loop-p-preserved c =
    let r = c.requires.levels.ready in
    let t = c.loop-p-test.true in
    let f = c.loop-p.invariant.halves.nearer in
    record { halves = halves_join r c.loop-p.invariant.halves c.write_around.ensures.halves (vertex_more c.args.valences.now t); points = points_join c.requires.levels c.loop-p.rings (kept_rows r f) (kept_ring r f) c.loop-p.invariant.points c.write_around.ensures.points (vertex_more c.args.valences.now t) }

pub returns : goal.returns
unfolding rings_next positions_next
returns c =
    let a = c.args in
    let e : c.loop-p.p ≡ a.count = omega arith in
    record { rings_after = rings_reached c.requires.levels.ready c.requires.up_to.rings (subst (λ (m : ℕ). Halves a.count (lent a.valences.now a.rings.now) c.loop-p.rings (PlacesOfBelow a.valences.now m)) e c.loop-p.invariant.halves); positions_after = positions_reached c.requires.levels c.requires.up_to.positions (subst (λ (m : ℕ). Points a.count (lent a.valences.now a.rings.now) a.positions.now c.loop-p.positions (PlacesOfBelow a.valences.now m)) e c.loop-p.invariant.points) }
