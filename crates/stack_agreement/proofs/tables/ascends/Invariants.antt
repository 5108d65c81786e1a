use Rattle.stack_agreement.proofs.Telling.{Rising}
use Rattle.stack_agreement.proofs.tables.ascends.Given as goal

abbrev pub invariant-loop-x : goal.invariant-loop-x
invariant-loop-x l = Rising l.rings l.falls l.least l.x
