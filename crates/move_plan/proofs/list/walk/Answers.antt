-- `walk` meets its contract. Assumes nothing.
use mathlib.Core.Path.{◌∙◌}
use native.Mathlib.Omega.{arith}
use Rattle.move_plan.proofs.Walks.{one_more}
use Rattle.move_plan.proofs.WalksStop.{counted_more}
use Rattle.move_plan.proofs.list.walk.Goals as goal

pub loop-i-preserved : goal.loop-i-preserved
loop-i-preserved c = record {
  so_far = one_more _ c.args.list.now c.loop-i.i c.loop-i.plan _ _ (omega arith) c.step-plan.ensures ∙ c.loop-i.invariant.so_far;
  counted = counted_more _ _ _ _ _ _ _ c.ahead.ensures (omega arith) c.loop-i.invariant.counted c.step-plan.ensures;
}
