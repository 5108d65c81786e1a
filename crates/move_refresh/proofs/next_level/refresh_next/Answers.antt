-- `refresh_next` meets its contract. Assumes nothing.
use mathlib.Core.Path.{◌≡◌, ◌∙◌}
use native.Mathlib.Omega.{arith}
use Rattle.rings.specs.Table.{rows}
use Rattle.move_touched.proofs.Renewed.{marked_settled, marked_points, refreshed_none, refreshed_more, refreshed_skip, levels_kept}
use Rattle.move_refresh.proofs.next_level.refresh_next.Goals as goal

pub loop-x-init : goal.loop-x-init
loop-x-init c = record { bound = omega arith; refreshed = refreshed_none }

pub refresh_vertex-requires-clause-levels : goal.refresh_vertex-requires-clause-levels
refresh_vertex-requires-clause-levels c =
    let e = c.requires.above_value in
    levels_kept c.requires.levels c.loop-x.invariant.refreshed (omega arith)

pub loop-x-preserved-then-skip-eq0 : goal.loop-x-preserved-then-skip-eq0
unfolding rows
loop-x-preserved-then-skip-eq0 c =
    let settled = marked_settled _ c.requires.levels.ready.sound c.args.base _ c.mark_next.ensures in
    let e = c.requires.above_value in
    record { bound = omega arith; refreshed = refreshed_more c.requires.levels c.loop-x.invariant.refreshed (omega arith) settled (omega arith) c.refresh_vertex.ensures }

pub loop-x-preserved : goal.loop-x-preserved
unfolding rows
loop-x-preserved c =
    let settled = marked_settled _ c.requires.levels.ready.sound c.args.base _ c.mark_next.ensures in
    let e = c.requires.above_value in
    let k = c.clear_ahead-skip.ensures.upper_bound in
    record { bound = omega arith; refreshed = refreshed_skip c.requires.levels settled _ c.loop-x.invariant.refreshed (omega arith) c.clear_ahead-skip.ensures.none_from }

pub returns-clause-positions_after : goal.returns-clause-positions_after
unfolding rows
returns-clause-positions_after c =
    let e = c.requires.above_value in
    let k : c.loop-x.x ≡ c.args.above = omega arith in
    let d = rw (k ∙ e) at c.loop-x.invariant.refreshed in
    d.points ∙ marked_points _ c.requires.levels.ready.sound c.args.base _ c.mark_next.ensures _
