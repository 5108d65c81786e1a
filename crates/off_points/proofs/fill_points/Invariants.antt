use Rattle.off_points.proofs.Pointing.{FilledTo}
use Rattle.off_points.proofs.fill_points.Given as goal

abbrev pub invariant-loop-v : goal.invariant-loop-v
invariant-loop-v l = FilledTo l.text l.initial.positions l.positions l.at l.v
