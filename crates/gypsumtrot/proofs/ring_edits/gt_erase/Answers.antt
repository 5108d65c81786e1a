-- `gt_erase` meets its contract. Assumes nothing.
use Rattle.rings.specs.Paper.{paper_verdict}
use Rattle.c_answers.proofs.Crossed.{through}
use Rattle.gypsumtrot.proofs.ring_edits.gt_erase.Goals as goal

pub returns : goal.returns
returns c =
    record { result_value = through paper_verdict c.of_verdict.ensures c.erase.ensures.value; valences_after = c.erase.ensures.valences_after; rings_after = c.erase.ensures.rings_after }
