-- `first_unknown` meets its contract. Assumes nothing.
use mathlib.Core.Path.{◌∙◌}
use lib.Dec.{leb}
use borrow.Author.Rules.{rules}
use Rattle.std.proofs.lemmas.Iterator.{YieldsList-from_slice}
use Rattle.mesh.proofs.Searches.{first_place}
use Rattle.ring_judge.proofs.judge.first_unknown.Goals as goal

pub returns : goal.returns
returns c =
    c.unwrap_or.ensures ∙ first_place (λ u. leb c.args.count u) c.args.list.now _ _ _ c.position.ensures.ran (YieldsList-from_slice c.args.list.now c.iter.ensures.rest) (λ y b q k. search rules)
