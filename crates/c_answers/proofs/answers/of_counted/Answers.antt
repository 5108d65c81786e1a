-- `of_counted` meets its contract. Assumes nothing.
use mathlib.Core.Path.{ap, sym}
use Rattle.rings.specs.Paper.{paper_counted}
use Rattle.c_answers.proofs.Crossed.{through, as_refused}
use Rattle.c_answers.proofs.answers.of_counted.Goals as goal

pub returns-in-Ok : goal.returns-in-Ok
returns-in-Ok c = ap paper_counted (sym c.in-Ok.is)

pub returns-in-Err : goal.returns-in-Err
returns-in-Err c =
    through paper_counted (as_refused c.in-Err.reason 0 c.number.ensures c.place.ensures)
    (sym c.in-Err.is)
