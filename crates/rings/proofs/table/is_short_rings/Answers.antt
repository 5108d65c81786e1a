-- `is_short_rings` meets its contract. Assumes nothing.
use borrow.Author.Tests.{tests}
use borrow.Author.Rules.{rules}
use Rattle.rings.specs.Check.{short_rings}
use Rattle.rings.proofs.table.is_short_rings.Goals as goal

pub returns-then-valences-count : goal.returns-then-valences-count
unfolding short_rings
returns-then-valences-count c = search (rules, tests)

pub returns-else-valences-count : goal.returns-else-valences-count
unfolding short_rings
returns-else-valences-count c = search (rules, tests)
