use Rattle.stack_agreement.proofs.Telling.{Walked}
use Rattle.stack_agreement.proofs.rows.row_agrees.Given as goal

abbrev pub invariant-loop-i : goal.invariant-loop-i
invariant-loop-i l = Walked l.row l.next l.above l.count l.end l.p l.before l.x l.i
