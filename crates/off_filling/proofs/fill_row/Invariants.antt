use Rattle.off_filling.proofs.RowWritten.{Walked}
use Rattle.off_filling.proofs.fill_row.Given as goal

abbrev pub invariant-loop-k : goal.invariant-loop-k
invariant-loop-k l = Walked l.count l.from l.to l.initial.rings l.a l.rings l.x l.k
