-- `count_over` meets its contract. Assumes nothing.
use mathlib.Core.Path.{ap, ◌∙◌}
use lib.Dec.{ltb}
use lib.ListN.{length}
use borrow.Author.Rules.{rules}
use borrow.Author.Tests.{tests}
use Rattle.std.proofs.lemmas.Iterator.{YieldsList-from_slice}
use Rattle.std.proofs.lemmas.Iterator.Consumers.{YieldsList-from_filter, count_from_yields_List}
use Rattle.loop_rings.proofs.Counts.{over_filtered}
use Rattle.loop_rings.proofs.numbers.count_over.Goals as goal

pub returns-clause-value : goal.returns-clause-value
returns-clause-value c =
    count_from_yields_List c.filter.result c.count.result c.count.ensures.ran
    (YieldsList-from_filter _ (λ a. ltb c.args.p a) (YieldsList-from_slice c.args.ring.now cc) c.filter.ensures.closure (λ x b q k. search (rules, tests)))
    ∙ ap length (over_filtered c.args.p c.args.ring.now)
