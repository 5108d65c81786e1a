-- `gt_read_off` meets its contract. Assumes nothing.
use Rattle.rings.specs.Paper.{paper_amount}
use Rattle.c_answers.proofs.Crossed.{through}
use Rattle.gypsumtrot.proofs.texts.gt_read_off.Goals as goal

pub returns : goal.returns
returns c =
    record { result_value = through paper_amount c.of_amount.ensures c.read_off.ensures.value; valences_after = c.read_off.ensures.valences_after; rings_after = c.read_off.ensures.rings_after; positions_after = c.read_off.ensures.positions_after }
