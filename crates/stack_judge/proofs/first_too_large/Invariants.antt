use Rattle.mesh.proofs.First.{Clear}
use Rattle.steps.specs.Sizes.{closed_sizes}
use Rattle.stack_judge.specs.Stack.{too_large}
use Rattle.stack_judge.proofs.Sizes.{Sized}
use Rattle.stack_judge.proofs.first_too_large.Given as goal

abbrev pub invariant-loop-k : goal.invariant-loop-k
invariant-loop-k l = record {
  sized : Sized (closed_sizes l.count l.edges) l.k l.level;
  small : Clear (too_large (closed_sizes l.count l.edges)) l.k;
}
