-- `rank` meets its contract. Assumes nothing.
use mathlib.Core.Bool.{◌&&◌}
use mathlib.Core.Path.{◌∙◌}
use lib.Dec.{ltb}
use borrow.Author.Rules.{rules}
use borrow.Author.Tests.{tests}
use Rattle.std.proofs.lemmas.Iterator.{YieldsList-from_slice}
use Rattle.std.proofs.lemmas.Iterator.Consumers.{YieldsList-from_filter, count_from_yields_List}
use Rattle.loop_rings.proofs.Counts.{rank_filtered}
use Rattle.loop_rings.proofs.numbers.rank.Goals as goal

pub returns-clause-value : goal.returns-clause-value
returns-clause-value c =
    count_from_yields_List c.filter.result c.count.result c.count.ensures.ran
    (YieldsList-from_filter _ (λ a. ltb c.args.p a && ltb a c.args.q) (YieldsList-from_slice c.args.ring.now cc) c.filter.ensures.closure (λ x b r k. search (rules, tests)))
    ∙ rank_filtered c.args.p c.args.q c.args.ring.now
