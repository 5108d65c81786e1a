-- `gt_replace` meets its contract. Assumes nothing.
use Rattle.rings.specs.Paper.{paper_verdict}
use Rattle.c_answers.proofs.Crossed.{through}
use Rattle.gypsumtrot.proofs.ring_edits.gt_replace.Goals as goal

pub returns : goal.returns
returns c =
    record { result_value = through paper_verdict c.of_verdict.ensures c.replace.ensures.value; valences_after = c.replace.ensures.valences_after; rings_after = c.replace.ensures.rings_after }
