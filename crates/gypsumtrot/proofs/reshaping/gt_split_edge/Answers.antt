-- `gt_split_edge` meets its contract. Assumes nothing.
use Rattle.rings.specs.Paper.{paper_counted}
use Rattle.c_answers.proofs.Crossed.{through}
use Rattle.gypsumtrot.proofs.reshaping.gt_split_edge.Goals as goal

pub returns : goal.returns
returns c =
    record { result_value = through paper_counted c.of_counted.ensures c.split_edge.ensures.value; rings_after = c.split_edge.ensures.rings_after; valences_after = c.split_edge.ensures.valences_after; positions_after = c.split_edge.ensures.positions_after }
