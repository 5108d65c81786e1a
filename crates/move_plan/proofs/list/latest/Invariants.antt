-- The point is that of the latest of the entries so far with v, or the point to start from.
use Rattle.std.proofs.Common.{◌≡◌, take}
use Rattle.move_plan.specs.Plan.{latest_point}
use Rattle.move_plan.proofs.list.latest.Given as goal

abbrev pub invariant-loop-entry : goal.invariant-loop-entry
invariant-loop-entry l = l.point ≡ latest_point (take l.entry-index l.entry-items) l.v l.initial.point
