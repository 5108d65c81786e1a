-- `gt_insert_before` meets its contract. Assumes nothing.
use Rattle.rings.specs.Paper.{paper_verdict}
use Rattle.c_answers.proofs.Crossed.{through}
use Rattle.gypsumtrot.proofs.ring_edits.gt_insert_before.Goals as goal

pub returns : goal.returns
returns c =
    record { result_value = through paper_verdict c.of_verdict.ensures c.insert_before.ensures.value; valences_after = c.insert_before.ensures.valences_after; rings_after = c.insert_before.ensures.rings_after }
