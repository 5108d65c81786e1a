-- `judge_vertices` meets its contract: the vertices passed close, and the first unfit one of them is known. What is ahead falls with each block.
-- Assumes nothing.
use Rattle.off_judge.proofs.Stepping.{judged_open, judged_all}
use Rattle.off_judge.proofs.judge_vertices.Goals as goal

pub returns-clause-judged : goal.returns-clause-judged
returns-clause-judged c = judged_all c.loop-step.invariant.sofar c.requires.count_value c.loop-step-test.false

pub returns-in-Err-clause-judged : goal.returns-in-Err-clause-judged
returns-in-Err-clause-judged c = let k = c.in-Err.ensures.stepped in judged_open k.sofar k.below k.opens_at
