-- `gt_flip` meets its contract. Assumes nothing.
use Rattle.rings.specs.Paper.{paper_counted}
use Rattle.c_answers.proofs.Crossed.{through}
use Rattle.gypsumtrot.proofs.reshaping.gt_flip.Goals as goal

pub returns : goal.returns
returns c =
    record { result_value = through paper_counted c.of_counted.ensures c.flip.ensures.value; rings_after = c.flip.ensures.rings_after; valences_after = c.flip.ensures.valences_after }
