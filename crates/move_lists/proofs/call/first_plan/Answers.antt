-- `first_plan` meets its contract. Assumes nothing.
use mathlib.Core.Path.{sym, ◌∙◌}
use Rattle.move_lists.proofs.Settled.{first_refused, first_accepted}
use Rattle.move_lists.proofs.call.first_plan.Goals as goal

pub returns-then-is_bad_levels : goal.returns-then-is_bad_levels
returns-then-is_bad_levels c = first_refused _ _ (sym c.if-is_bad_levels.true ∙ c.is_bad_levels.ensures) _ c.opened.ensures

pub returns : goal.returns
returns c = first_accepted _ _ (sym c.if-is_bad_levels.false ∙ c.is_bad_levels.ensures) _ c.opened-2.ensures
