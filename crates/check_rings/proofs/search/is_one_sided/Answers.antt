-- `is_one_sided` meets its contract. Assumes nothing.
use borrow.Author.Rules.{rules}
use Rattle.mesh.specs.Tests.{one_sided}
use Rattle.mesh.proofs.Searches.{some_found}
use Rattle.rings.proofs.Rows.{row_some}
use Rattle.check_rings.proofs.search.is_one_sided.Goals as goal

pub returns : goal.returns
unfolding one_sided
returns c = row_some c.requires.fit c.requires.v_lt_count _ _ (some_found _ _ _ _ _ c.any.ensures.ran (λ x b q k. search rules))
