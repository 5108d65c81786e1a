use Rattle.mesh.proofs.Overs.{Least}
use Rattle.loop_rings.proofs.numbers.place_over.Given as goal

abbrev pub invariant-loop-i : goal.invariant-loop-i
invariant-loop-i l = Least l.ring l.last l.best l.at l.i
