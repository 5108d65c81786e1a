-- `write_points` meets its contract. Assumes nothing.
use Prim.Native.Nat.{ℕ}
use mathlib.Core.Path.{◌≡◌, refl, sym, subst, ◌∙◌}
use native.Mathlib.Omega.{arith}
use Rattle.rings.specs.Table.{lent}
use Rattle.loop_halves.specs.Nearer.{Points, PlacesBelow}
use Rattle.loop_halves.proofs.PointTargets.{kept_point_lem, kept_levels, points_join}
use Rattle.loop_halves.proofs.Steps.{points_none, no_place, place_more}
use Rattle.loop_halves.proofs.edges.write_points.Goals as goal

pub loop-k-init : goal.loop-k-init
loop-k-init c = let s = c.args in points_none s.count (lent s.valences.now s.rings.now) s.positions.now (no_place s.p)

pub write_point-requires : goal.write_point-requires
write_point-requires c =
    let f = c.loop-k.invariant.nearer in
    let h = c.requires.p_lt_count in
    let e = c.requires.here_value ∙ sym (kept_point_lem c.requires.levels f c.args.p h) in
    record { levels = kept_levels c.requires.levels f; has_old = c.requires.has_old; p_lt_count = h; here_value = e; n_value = c.requires.n_value; k_lt_n = c.loop-k-test.true }

pub loop-k-preserved : goal.loop-k-preserved
loop-k-preserved c =
    points_join c.requires.levels c.args.rings.now refl (λ v l. refl) c.loop-k.invariant c.write_point.ensures
    (place_more c.requires.p_lt_count)

pub returns : goal.returns
returns c =
    let s = c.args in
    let e : c.loop-k.k ≡ s.n = omega arith in
    subst (λ (m : ℕ). Points s.count (lent s.valences.now s.rings.now) s.positions.now c.loop-k.positions (PlacesBelow s.p m)) e c.loop-k.invariant
