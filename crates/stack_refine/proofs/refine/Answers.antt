-- `refine` meets its contract. Assumes nothing.
use mathlib.Core.Path.{sym, ◌∙◌}
use Rattle.stack_judge.proofs.AcceptedStack.{stack_only}
use Rattle.stack_refine.proofs.RefineAnswers.{refused_answer, refused_tables, accepted_answer, accepted_valences, accepted_rings, accepted_positions}
use Rattle.rings.proofs.Verdicts.{handed_on}
use Rattle.stack_refine.proofs.refine.Goals as goal

pub returns-in_err-judge_stack : goal.returns-in_err-judge_stack
returns-in_err-judge_stack c =
    let t = refused_tables _ _ _ _ _ c.in_err-judge_stack.ensures in
    record {
      value = handed_on c.from_residual.ensures (refused_answer _ _ _ _ _ c.in_err-judge_stack.ensures);
      valences_after = t.0;
      rings_after = t.1.0;
      positions_after = t.1.1;
    }

pub write_levels-requires : goal.write_levels-requires
write_levels-requires c =
    stack_only _ _ _ _ (sym c.in_ok-judge_stack.ensures)

pub returns : goal.returns
returns c =
    let e = c.in_ok-judge_stack.ensures in
    record { value = c.write_levels.ensures.value ∙ accepted_answer _ _ _ _ e; valences_after = c.write_levels.ensures.valences_after ∙ accepted_valences _ _ _ _ e; rings_after = c.write_levels.ensures.rings_after ∙ accepted_rings _ _ _ _ e; positions_after = c.write_levels.ensures.positions_after ∙ accepted_positions _ _ _ _ e }
