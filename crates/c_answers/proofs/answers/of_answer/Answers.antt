-- `of_answer` meets its contract. Assumes nothing.
use mathlib.Core.Path.{sym}
use Rattle.ring_query.specs.Paper.{paper_answer}
use Rattle.c_answers.proofs.Crossed.{through}
use Rattle.c_answers.proofs.answers.of_answer.Goals as goal

pub returns-in-Ok-true : goal.returns-in-Ok-true
returns-in-Ok-true c = through paper_answer c.accepted.ensures (sym (rw c.in-Ok-true.field-0-test at c.in-Ok-true.is))

pub returns-in-Ok-false : goal.returns-in-Ok-false
returns-in-Ok-false c = through paper_answer c.accepted-in-Ok-false.ensures (sym (rw c.in-Ok-false.field-0-test at c.in-Ok-false.is))

pub returns-in-Err : goal.returns-in-Err
returns-in-Err c = through paper_answer c.refused.ensures (sym c.in-Err.is)
