-- `gt_write_off` meets its contract. Assumes nothing.
use Rattle.rings.specs.Paper.{paper_amount}
use Rattle.c_answers.proofs.Crossed.{through}
use Rattle.gypsumtrot.proofs.texts.gt_write_off.Goals as goal

pub returns : goal.returns
returns c =
    record { result_value = through paper_amount c.of_amount.ensures c.write_off.ensures.value; text_after = c.write_off.ensures.text_after }
