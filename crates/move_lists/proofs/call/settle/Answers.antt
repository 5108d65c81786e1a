-- `settle` meets its contract. Assumes nothing.
use mathlib.Core.Path.{sym}
use Rattle.move_lists.proofs.Settled.{settle_stopped, settle_unplanned, settle_done}
use Rattle.rings.proofs.Verdicts.{handed_on}
use Rattle.move_lists.proofs.call.settle.Goals as goal

pub returns-in_err-judge_before : goal.returns-in_err-judge_before
returns-in_err-judge_before c =
    let t = settle_stopped _ _ _ _ _ _ _ c.in_err-judge_before.ensures in
    (handed_on c.from_residual.ensures t.0, t.1, t.2)

pub carry_out-requires : goal.carry_out-requires
carry_out-requires c = record { fair = c.requires; moves_value = sym c.in_ok-judge_before.ensures }

pub returns-in_err-plan : goal.returns-in_err-plan
returns-in_err-plan c =
    let t = settle_unplanned _ _ _ _ _ _ c.in_ok-judge_before.ensures _ c.in_err-plan.was in
    (handed_on c.from_residual-in_err-plan.ensures t.0, t.1, t.2)

pub returns : goal.returns
returns c =
    settle_done _ _ _ _ _ _ c.in_ok-judge_before.ensures c.in_ok-plan.was _ _ _
    c.carry_out.ensures.value c.carry_out.ensures.positions_after c.carry_out.ensures.map_after
