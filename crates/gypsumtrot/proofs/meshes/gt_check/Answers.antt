-- `gt_check` meets its contract. Assumes nothing.
use Rattle.rings.specs.Paper.{paper_counted}
use Rattle.c_answers.proofs.Crossed.{through}
use Rattle.gypsumtrot.proofs.meshes.gt_check.Goals as goal

pub returns : goal.returns
returns c = through paper_counted c.of_counted.ensures c.check.ensures
