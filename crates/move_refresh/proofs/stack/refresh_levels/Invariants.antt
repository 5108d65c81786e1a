use Rattle.rings.specs.Table.{lent}
use Rattle.move_refresh.proofs.Raised.{Raised, Begins}
use Rattle.move_refresh.proofs.stack.refresh_levels.Given as goal

abbrev pub invariant-loop : goal.invariant-loop
invariant-loop l = record {
  raised : Raised l.count (lent l.valences l.rings) l.initial.positions l.initial.map l.counter l.below l.map l.positions;
  begins : Begins (lent l.valences l.rings) l.positions l.below;
}
