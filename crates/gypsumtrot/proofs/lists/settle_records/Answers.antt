-- `settle_records` meets its contract. Assumes nothing.
use Rattle.rings.specs.Paper.{paper_amount}
use Rattle.c_answers.proofs.Crossed.{through}
use Rattle.gypsumtrot.proofs.lists.settle_records.Goals as goal

pub returns : goal.returns
returns c = let e = c.settle.ensures in (through paper_amount c.of_amount.ensures e.0, e.1, e.2)
