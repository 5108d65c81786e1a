use Rattle.off_points.proofs.Pointing.{Searched}
use Rattle.off_points.proofs.first_far.Given as goal

abbrev pub invariant-loop-v : goal.invariant-loop-v
invariant-loop-v l = Searched l.text l.at l.v
