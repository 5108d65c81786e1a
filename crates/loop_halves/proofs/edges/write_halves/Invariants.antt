use Rattle.rings.specs.Table.{lent}
use Rattle.loop_halves.specs.Nearer.{Halves, PlacesBelow}
use Rattle.loop_halves.proofs.edges.write_halves.Given as goal

abbrev pub invariant-loop-k : goal.invariant-loop-k
invariant-loop-k l = Halves l.count (lent l.valences l.initial.rings) l.rings (PlacesBelow l.p l.k)
