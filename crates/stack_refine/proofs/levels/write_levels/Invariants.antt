use Rattle.rings.specs.Table.{lent}
use Rattle.stack_refine.proofs.WrittenLevels.{Running}
use Rattle.stack_refine.proofs.levels.write_levels.Given as goal

abbrev pub invariant-loop : goal.invariant-loop
invariant-loop l = Running l.count l.levels (lent l.initial.valences l.initial.rings) l.initial.positions l.counter l.below (lent l.valences l.rings) l.positions
