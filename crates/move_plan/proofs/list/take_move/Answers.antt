-- `take_move` meets its contract. Assumes nothing.
use Rattle.move_plan.proofs.Plans.{kept_near}
use Rattle.move_plan.proofs.list.take_move.Goals as goal

pub mm_of-requires : goal.mm_of-requires
mm_of-requires c = let n = kept_near _ _ c.kept-point.ensures in record { fact_1 = n.x; fact_2 = n.y; fact_3 = n.z }
