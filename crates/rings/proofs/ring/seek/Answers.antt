-- `seek` meets its contract. Assumes nothing.
use mathlib.Core.Path.{◌∙◌}
use borrow.Author.Rules.{rules}
use Rattle.std.proofs.lemmas.Iterator.{YieldsList-from_slice}
use Rattle.mesh.proofs.Searches.{place_found}
use Rattle.rings.proofs.ring.seek.Goals as goal

pub returns : goal.returns
returns c =
    c.unwrap_or.ensures ∙ place_found c.args.x c.args.ring.now _ _ _ c.position.ensures.ran (YieldsList-from_slice c.args.ring.now c.iter.ensures.rest) (λ y b q k. search rules)
