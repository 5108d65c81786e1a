-- `walk_records` meets its contract. Assumes nothing.
use mathlib.Core.Path.{ap, ◌∙◌}
use native.Mathlib.Omega.{arith}
use Rattle.move_plan.specs.Plan.{step_of}
use Rattle.move_plan.proofs.WalksStop.{counted_more}
use Rattle.c_moves.proofs.RecordWalks.{one_record_more}
use Rattle.c_moves.proofs.walk_records.Goals as goal

pub loop-i-preserved : goal.loop-i-preserved
loop-i-preserved c = record {
  so_far = one_record_more _ c.args.list.now c.loop-i.i c.loop-i.plan _ _ (omega arith)
      (c.step-plan.ensures ∙ ap (step_of c.args.positions.now c.loop-i.plan) c.from.ensures) ∙ c.loop-i.invariant.so_far;
  counted = counted_more _ _ _ _ _ _ _ c.ahead.ensures (omega arith) c.loop-i.invariant.counted c.step-plan.ensures;
}
