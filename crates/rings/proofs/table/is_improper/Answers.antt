-- `is_improper` meets its contract. Assumes nothing.
use borrow.Author.Rules.{rules}
use borrow.Author.Tests.{tests}
use Rattle.rings.specs.Check.{improper_row}
use Rattle.rings.proofs.Rows.{improper_rest}
use Rattle.rings.proofs.table.is_improper.Goals as goal

pub returns-then-valences-v-gt-MOST_VALENCE : goal.returns-then-valences-v-gt-MOST_VALENCE
unfolding improper_row
returns-then-valences-v-gt-MOST_VALENCE c = search (rules, tests)

pub returns-else-valences-v-gt-MOST_VALENCE : goal.returns-else-valences-v-gt-MOST_VALENCE
returns-else-valences-v-gt-MOST_VALENCE c = search improper_rest
