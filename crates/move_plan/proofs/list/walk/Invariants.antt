-- The moves that are left, from the plan reached, come to what the whole list comes to from the first plan; an accepted plan has taken
-- as many as were looked at.
use Rattle.std.proofs.Common.{◌≡◌, drop}
use Rattle.move_plan.specs.Plan.{walk_of}
use Rattle.move_plan.proofs.WalksStop.{Counted}
use Rattle.move_plan.proofs.list.walk.Given as goal

abbrev pub invariant-loop-i : goal.invariant-loop-i
invariant-loop-i l = record {
  so_far : walk_of l.positions (drop l.i l.list) l.plan ≡ walk_of l.positions l.list l.fn.start;
  counted : Counted l.i l.plan;
}
