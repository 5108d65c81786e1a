-- `fill_rings` meets its contract: there is less ahead with each block. Assumes nothing.
use Rattle.off_filling.proofs.BlocksFilled.{passed_none, passed_more}
use Rattle.off_filling.proofs.fill_rings.Goals as goal

pub loop-step-init : goal.loop-step-init
loop-step-init c = passed_none

pub loop-step-preserved : goal.loop-step-preserved
loop-step-preserved c =
    passed_more c.loop-step.invariant c.requires.fillable c.fill_block-step.ensures.stepped c.fill_block-step.ensures.same_room
