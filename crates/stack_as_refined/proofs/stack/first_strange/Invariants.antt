use Rattle.rings.specs.Table.{lent}
use Rattle.stack_as_refined.proofs.Sweep.{Reached}
use Rattle.stack_as_refined.proofs.stack.first_strange.Given as goal

abbrev pub invariant-loop : goal.invariant-loop
invariant-loop l = Reached l.count l.levels (lent l.valences l.rings) l.positions l.below l.counter
