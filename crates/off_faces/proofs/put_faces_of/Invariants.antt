use Rattle.off_faces.proofs.FacesWritten.{Faced}
use Rattle.off_faces.proofs.put_faces_of.Given as goal

abbrev pub invariant-loop-k : goal.invariant-loop-k
invariant-loop-k l = Faced l.initial.text l.at l.ring l.a l.b l._k l.text l.end
