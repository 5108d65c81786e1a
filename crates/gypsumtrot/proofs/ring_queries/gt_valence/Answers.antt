-- `gt_valence` meets its contract. Assumes nothing.
use Rattle.rings.specs.Paper.{paper_amount}
use Rattle.c_answers.proofs.Crossed.{through}
use Rattle.gypsumtrot.proofs.ring_queries.gt_valence.Goals as goal

pub returns : goal.returns
returns c = through paper_amount c.of_amount.ensures c.valence.ensures
