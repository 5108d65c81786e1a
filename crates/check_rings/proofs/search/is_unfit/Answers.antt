-- `is_unfit` meets its contract. Assumes nothing.
use borrow.Author.Rules.{rules}
use borrow.Author.Tests.{tests}
use Rattle.rings.specs.Check.{unfit_row}
use Rattle.check_rings.proofs.search.is_unfit.Goals as goal

pub returns-then-valences-v-lt-LEAST_VALENCE : goal.returns-then-valences-v-lt-LEAST_VALENCE
unfolding unfit_row
returns-then-valences-v-lt-LEAST_VALENCE c = search (rules, tests)

pub returns-else-valences-v-lt-LEAST_VALENCE : goal.returns-else-valences-v-lt-LEAST_VALENCE
unfolding unfit_row
returns-else-valences-v-lt-LEAST_VALENCE c = search (rules, tests)
