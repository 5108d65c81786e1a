-- `gt_next` meets its contract. Assumes nothing.
use Rattle.ring_query.specs.Paper.{paper_neighbour}
use Rattle.c_answers.proofs.Crossed.{through}
use Rattle.gypsumtrot.proofs.ring_queries.gt_next.Goals as goal

pub returns : goal.returns
returns c = through paper_neighbour c.of_neighbour.ensures c.next.ensures
