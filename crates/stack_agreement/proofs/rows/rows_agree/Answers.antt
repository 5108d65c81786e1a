-- `rows_agree` meets its contract. Assumes nothing.
use borrow.Author.Rules.{rules}
use Rattle.mesh.proofs.Searches.{each_found}
use Rattle.stack_agreement.proofs.rows.rows_agree.Goals as goal

pub returns : goal.returns
returns c = λ e. record { row = each_found _ _ _ _ _ c.all.ensures.ran (λ x q k. search rules) e }
