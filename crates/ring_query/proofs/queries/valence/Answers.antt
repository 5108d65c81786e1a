-- `valence` meets its contract. Assumes nothing.
use native.Mathlib.Omega.{arith}
use Rattle.ring_judge.proofs.Judged.{called}
use Rattle.rings.proofs.Verdicts.{handed_on}
use Rattle.ring_query.proofs.QueryAnswers.{valence_refused, valence_told}
use borrow.Author.Rules.{rules}
use Rattle.ring_query.proofs.queries.valence.Goals as goal

pub offset_bounds-valences-v : goal.offset_bounds-valences-v
offset_bounds-valences-v c = let h = (called _ _ _ c.in_ok-judge_call.ensures).row in search rules

pub bounds-valences-v : goal.bounds-valences-v
bounds-valences-v c = let h = (called _ _ _ c.in_ok-judge_call.ensures).row in search rules

pub overflow_cast-result : goal.overflow_cast-result
overflow_cast-result c = omega (arith, c.type_inv.valences c.args.v)

pub returns-in_err-judge_call : goal.returns-in_err-judge_call
returns-in_err-judge_call c = handed_on c.from_residual.ensures (valence_refused _ _ _ _ c.in_err-judge_call.ensures)

pub returns : goal.returns
returns c = valence_told _ _ _ c.in_ok-judge_call.ensures
