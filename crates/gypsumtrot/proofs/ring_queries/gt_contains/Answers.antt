-- `gt_contains` meets its contract. Assumes nothing.
use Rattle.ring_query.specs.Paper.{paper_answer}
use Rattle.c_answers.proofs.Crossed.{through}
use Rattle.gypsumtrot.proofs.ring_queries.gt_contains.Goals as goal

pub returns : goal.returns
returns c = through paper_answer c.of_answer.ensures c.contains.ensures
