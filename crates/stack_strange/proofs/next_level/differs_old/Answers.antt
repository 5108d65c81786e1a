-- `differs_old` meets its contract. Assumes nothing.
use mathlib.Core.Path.{◌∙◌}
use borrow.Author.Rules.{rules}
use Rattle.mesh.proofs.Searches.{some_found}
use Rattle.stack_strange.proofs.NextRows.{old_differing}
use Rattle.stack_strange.proofs.next_level.differs_old.Goals as goal

pub returns : goal.returns
returns c =
    some_found _ _ _ _ _ c.any.ensures.ran (λ x b q k. search rules) ∙ old_differing c.requires.ready c.requires.p_lt_count c.requires.p_value
