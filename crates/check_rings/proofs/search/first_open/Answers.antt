-- `first_open` meets its contract. Assumes nothing.
use mathlib.Core.Path.{◌∙◌}
use borrow.Author.Rules.{rules}
use Rattle.mesh.proofs.Searches.{first_found}
use Rattle.check_rings.proofs.search.first_open.Goals as goal

pub returns : goal.returns
returns c = c.unwrap_or.ensures ∙ first_found _ _ _ _ _ c.find.ensures.ran (λ x b q k. search rules)
