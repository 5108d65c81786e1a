-- `gt_refine` meets its contract. Assumes nothing.
use Rattle.rings.specs.Paper.{paper_counted}
use Rattle.c_answers.proofs.Crossed.{through}
use Rattle.gypsumtrot.proofs.meshes.gt_refine.Goals as goal

pub returns : goal.returns
returns c =
    record { result_value = through paper_counted c.of_counted.ensures c.refine.ensures.value; valences_after = c.refine.ensures.valences_after; rings_after = c.refine.ensures.rings_after; positions_after = c.refine.ensures.positions_after }
