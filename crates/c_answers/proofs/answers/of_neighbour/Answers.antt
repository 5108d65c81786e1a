-- `of_neighbour` meets its contract. Assumes nothing.
use mathlib.Core.Path.{sym, ◌∙◌}
use Rattle.ring_query.specs.Paper.{paper_neighbour}
use Rattle.c_answers.proofs.Crossed.{through, or_null}
use Rattle.c_answers.proofs.answers.of_neighbour.Goals as goal

pub returns-in-Ok : goal.returns-in-Ok
returns-in-Ok c = through paper_neighbour (c.accepted.ensures ∙ or_null _ c.unwrap_or.ensures) (sym c.in-Ok.is)

pub returns-in-Err : goal.returns-in-Err
returns-in-Err c = through paper_neighbour c.refused.ensures (sym c.in-Err.is)
