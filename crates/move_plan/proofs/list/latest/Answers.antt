-- `latest` meets its contract. Assumes nothing.
use Rattle.std.proofs.Common.{◌∙◌, refl}
use Rattle.move_plan.specs.Plan.{latest_point}
use Rattle.move_plan.proofs.Plans.{latest_hit, latest_miss}
use Rattle.move_plan.proofs.list.latest.Goals as goal
use Rattle.move_plan.proofs.list.latest.Goals.{then-entry-v, else-entry-v}

pub loop-entry-init : goal.loop-entry-init
unfolding latest_point
loop-entry-init c = refl

pub loop-entry-preserved : goal.loop-entry-preserved
loop-entry-preserved c =
    elim c.if-entry-v.branch [
      | then-entry-v w ↦ w.point-is ∙ latest_hit _ _ _ _ c.loop-entry.point _ c.loop-entry-test.true c.loop-entry.invariant w.if-entry-v.true
      | else-entry-v w ↦ w.point-is ∙ latest_miss _ _ _ _ c.loop-entry.point _ c.loop-entry-test.true c.loop-entry.invariant w.if-entry-v.false
    ]
