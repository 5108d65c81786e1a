-- `is_bad_levels` meets its contract. Assumes nothing.
use borrow.Author.Rules.{rules}
use borrow.Author.Tests.{tests}
use Rattle.stack_judge.specs.Stack.{bad_levels}
use Rattle.stack_judge.proofs.is_bad_levels.Goals as goal

pub returns-then-levels-lt-LEAST_LEVELS : goal.returns-then-levels-lt-LEAST_LEVELS
unfolding bad_levels
returns-then-levels-lt-LEAST_LEVELS c = search (rules, tests)

pub returns-else-levels-lt-LEAST_LEVELS : goal.returns-else-levels-lt-LEAST_LEVELS
unfolding bad_levels
returns-else-levels-lt-LEAST_LEVELS c = search (rules, tests)
