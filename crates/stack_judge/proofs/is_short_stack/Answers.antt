-- `is_short_stack` meets its contract. Assumes nothing.
use native.Mathlib.Omega.{arith}
use Rattle.std.proofs.lemmas.Bool.Decides.{nat_tests}
use Rattle.stack_judge.specs.Stack.{short_stack}
use Rattle.stack_judge.proofs.is_short_stack.Goals as goal

pub returns-then-rings-n : goal.returns-then-rings-n
unfolding short_stack
returns-then-rings-n c = grind (arith, nat_tests)

pub returns-else-rings-n : goal.returns-else-rings-n
unfolding short_stack
returns-else-rings-n c = grind (arith, nat_tests)
