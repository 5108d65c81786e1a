use Rattle.rings.specs.Table.{lent}
use Rattle.loop_halves.specs.Nearer.{Halves, Points, PlacesOfBelow}
use Rattle.loop_sweep.proofs.write.write_new.Given as goal

abbrev pub invariant-loop-p : goal.invariant-loop-p
invariant-loop-p l = record {
  halves : Halves l.count (lent l.valences l.initial.rings) l.rings (PlacesOfBelow l.valences l.p);
  points : Points l.count (lent l.valences l.initial.rings) l.initial.positions l.positions (PlacesOfBelow l.valences l.p);
}
