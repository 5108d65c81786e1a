-- `gt_write` meets its contract. Assumes nothing.
use Rattle.rings.specs.Paper.{paper_amount}
use Rattle.c_answers.proofs.Crossed.{through}
use Rattle.gypsumtrot.proofs.files.gt_write.Goals as goal

pub returns : goal.returns
returns c =
    record { result_value = through paper_amount c.of_amount.ensures c.write.ensures.value; file_after = c.write.ensures.file_after }
