use Rattle.rings.proofs.Rewrite.{Written}
use Rattle.ring_row.proofs.row.write.Given as goal

abbrev pub invariant-loop-k : goal.invariant-loop-k
invariant-loop-k l = Written l.list l.initial.row l.k l.row
