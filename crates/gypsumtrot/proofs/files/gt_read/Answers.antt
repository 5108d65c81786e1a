-- `gt_read` meets its contract. Assumes nothing.
use Rattle.rings.specs.Paper.{paper_amount}
use Rattle.c_answers.proofs.Crossed.{through}
use Rattle.gypsumtrot.proofs.files.gt_read.Goals as goal

pub returns : goal.returns
returns c =
    record { result_value = through paper_amount c.of_amount.ensures c.read.ensures.value; valences_after = c.read.ensures.valences_after; rings_after = c.read.ensures.rings_after; positions_after = c.read.ensures.positions_after }
