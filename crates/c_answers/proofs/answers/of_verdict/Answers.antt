-- `of_verdict` meets its contract. Assumes nothing.
use mathlib.Core.Path.{sym}
use Rattle.rings.specs.Paper.{paper_verdict}
use Rattle.c_answers.proofs.Crossed.{through}
use Rattle.c_answers.proofs.answers.of_verdict.Goals as goal

pub returns-in-Ok : goal.returns-in-Ok
returns-in-Ok c = through paper_verdict c.accepted.ensures (sym c.in-Ok.is)

pub returns-in-Err : goal.returns-in-Err
returns-in-Err c = through paper_verdict c.refused.ensures (sym c.in-Err.is)
