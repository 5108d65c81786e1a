-- `gt_split_face` meets its contract. Assumes nothing.
use Rattle.rings.specs.Paper.{paper_counted}
use Rattle.c_answers.proofs.Crossed.{through}
use Rattle.gypsumtrot.proofs.reshaping.gt_split_face.Goals as goal

pub returns : goal.returns
returns c =
    record { result_value = through paper_counted c.of_counted.ensures c.split_face.ensures.value; rings_after = c.split_face.ensures.rings_after; valences_after = c.split_face.ensures.valences_after; positions_after = c.split_face.ensures.positions_after }
