-- `write_around` meets its contract. Assumes nothing.
use mathlib.Core.Path.{◌≡◌, refl, sym}
use lib.ListN.{get_or}
use native.Mathlib.Omega.{arith}
use Rattle.loop_halves.proofs.Steps.{halves_at, points_at}
use Rattle.loop_sweep.proofs.write.write_around.Goals as goal

pub point_of-here-requires : goal.point_of-here-requires
point_of-here-requires c = let n = c.requires.levels.near.points in let h = c.requires.p_lt_count in omega arith

pub overflow_cast-n : goal.overflow_cast-n
overflow_cast-n c = omega (arith, c.type_inv.valences c.args.p)

pub write_points-requires : goal.write_points-requires
write_points-requires c =
    record { levels = c.requires.levels; has_old = c.requires.has_old; p_lt_count = c.requires.p_lt_count; here_value = c.point_of-here.ensures; n_value = sym c.if-n-eq6.true }

pub write_halves-requires : goal.write_halves-requires
write_halves-requires c =
    record { ready = c.requires.levels.ready; has_old = c.requires.has_old; p_lt_count = c.requires.p_lt_count; n_value = sym c.if-n-eq6.true }

pub returns-then-n-eq6 : goal.returns-then-n-eq6
returns-then-n-eq6 c =
    let s = c.args in
    let e : 6 ≡ get_or s.valences.now s.p 0 = sym c.if-n-eq6.true in
    record { halves = halves_at s.p e c.write_halves.ensures; points = points_at s.p e c.write_points.ensures }

pub write_points-requires-2 : goal.write_points-requires-2
write_points-requires-2 c =
    record { levels = c.requires.levels; has_old = c.requires.has_old; p_lt_count = c.requires.p_lt_count; here_value = c.point_of-here.ensures; n_value = refl }

pub write_halves-requires-2 : goal.write_halves-requires-2
write_halves-requires-2 c =
    record { ready = c.requires.levels.ready; has_old = c.requires.has_old; p_lt_count = c.requires.p_lt_count; n_value = refl }

pub returns : goal.returns
returns c =
    record { halves = c.write_halves-2.ensures; points = c.write_points-2.ensures }
