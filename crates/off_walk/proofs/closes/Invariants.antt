use Rattle.std.proofs.Common.{◌-◌}
use Rattle.off_walk.proofs.Following.{Walked}
use Rattle.off_walk.proofs.closes.Given as goal

abbrev pub invariant-loop-k : goal.invariant-loop-k
invariant-loop-k l = Walked l.count l.from l.to l.start l.x (l._k - 1)
