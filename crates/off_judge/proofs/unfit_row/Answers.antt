-- `unfit_row` meets its contract. Assumes nothing.
use mathlib.Core.Path.{◌∙◌}
use borrow.Author.Rules.{rules}
use Rattle.mesh.proofs.Searches.{first_found}
use Rattle.off_judge.proofs.unfit_row.Goals as goal

pub returns : goal.returns
returns c = c.unwrap_or.ensures ∙ first_found _ _ _ _ _ c.find.ensures.ran (λ x b q k. search rules)
