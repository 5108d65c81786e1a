-- `gt_insert_after` meets its contract. Assumes nothing.
use Rattle.rings.specs.Paper.{paper_verdict}
use Rattle.c_answers.proofs.Crossed.{through}
use Rattle.gypsumtrot.proofs.ring_edits.gt_insert_after.Goals as goal

pub returns : goal.returns
returns c =
    record { result_value = through paper_verdict c.of_verdict.ensures c.insert_after.ensures.value; valences_after = c.insert_after.ensures.valences_after; rings_after = c.insert_after.ensures.rings_after }
