use Rattle.steps.specs.Sizes.{closed_sizes}
use Rattle.stack_judge.proofs.Sizes.{Sized}
use Rattle.stack_judge.proofs.stack_count.Given as goal

abbrev pub invariant-loop : goal.invariant-loop
invariant-loop l = Sized (closed_sizes l.count l.edges) l.counter l.level
