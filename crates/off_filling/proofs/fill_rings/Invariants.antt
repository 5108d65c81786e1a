use Rattle.rings.specs.Table.{lent}
use Rattle.off_blocks.specs.Blocks.{ahead}
use Rattle.off_filling.proofs.BlocksFilled.{Passed}
use Rattle.off_filling.proofs.fill_rings.Given as goal

abbrev pub invariant-loop-step : goal.invariant-loop-step
invariant-loop-step l = Passed l.text l.count l.step.at l.step.width l.initial.counts l.initial.froms l.initial.tos (lent l.initial.valences l.initial.rings) l.counts l.froms l.tos (lent l.valences l.rings)

abbrev pub decreases-loop-step : goal.decreases-loop-step
decreases-loop-step l = ahead l.count l.step.at l.step.width
