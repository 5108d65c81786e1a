-- `is_bad_count` meets its contract. Assumes nothing.
use borrow.Author.Tests.{tests}
use borrow.Author.Rules.{rules}
use Rattle.rings.specs.Check.{bad_count}
use Rattle.rings.proofs.table.is_bad_count.Goals as goal

pub returns-then-count-lt-LEAST_COUNT : goal.returns-then-count-lt-LEAST_COUNT
unfolding bad_count
returns-then-count-lt-LEAST_COUNT c = search (rules, tests)

pub returns-else-count-lt-LEAST_COUNT : goal.returns-else-count-lt-LEAST_COUNT
unfolding bad_count
returns-else-count-lt-LEAST_COUNT c = search (rules, tests)
