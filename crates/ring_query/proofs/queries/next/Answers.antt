-- `next` meets its contract. Assumes nothing.
use borrow.Author.Rules.{rules}
use Rattle.ring_judge.proofs.Judged.{called}
use Rattle.rings.proofs.Verdicts.{handed_on}
use Rattle.ring_query.proofs.QueryAnswers.{next_refused, next_told}
use Rattle.ring_query.proofs.queries.next.Goals as goal

pub ring_of-requires : goal.ring_of-requires
ring_of-requires c = (called _ _ _ c.in_ok-judge_call.ensures).row

pub returns-in_err-judge_call : goal.returns-in_err-judge_call
returns-in_err-judge_call c = handed_on c.from_residual.ensures (next_refused _ _ _ _ _ c.in_err-judge_call.ensures)

pub returns : goal.returns
returns c = next_told _ _ _ c.in_ok-judge_call.ensures _ _ c.ring_of.ensures.result_value (search rules)
