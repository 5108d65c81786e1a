-- `is_open` meets its contract. Assumes nothing.
use borrow.Author.Rules.{rules}
use Rattle.mesh.specs.Tests.{open_faced}
use Rattle.mesh.proofs.Searches.{some_found}
use Rattle.rings.proofs.Rows.{row_some}
use Rattle.check_rings.proofs.search.is_open.Goals as goal

pub returns : goal.returns
unfolding open_faced
returns c = row_some c.requires.fit c.requires.v_lt_count _ _ (some_found _ _ _ _ _ c.any.ensures.ran (λ x b q k. search rules))
