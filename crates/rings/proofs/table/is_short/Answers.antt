-- `is_short` meets its contract. Assumes nothing.
use borrow.Author.Tests.{tests}
use borrow.Author.Rules.{rules}
use Rattle.rings.specs.Check.{short_tables}
use Rattle.rings.proofs.table.is_short.Goals as goal

pub returns-then-is_short_rings : goal.returns-then-is_short_rings
unfolding short_tables
returns-then-is_short_rings c = search (rules, tests)

pub returns-else-is_short_rings : goal.returns-else-is_short_rings
unfolding short_tables
returns-else-is_short_rings c = search (rules, tests)
