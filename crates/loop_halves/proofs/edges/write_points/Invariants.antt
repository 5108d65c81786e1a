use Rattle.rings.specs.Table.{lent}
use Rattle.loop_halves.specs.Nearer.{Points, PlacesBelow}
use Rattle.loop_halves.proofs.edges.write_points.Given as goal

abbrev pub invariant-loop-k : goal.invariant-loop-k
invariant-loop-k l = Points l.count (lent l.valences l.rings) l.initial.positions l.positions (PlacesBelow l.p l.k)
