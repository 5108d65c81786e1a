-- `is_three` meets its contract. Assumes nothing.
use mathlib.Core.Path.{◌∙◌}
use Rattle.off_layout.proofs.Lines.{three_is}
use Rattle.off_layout.proofs.is_three.Goals as goal

pub returns : goal.returns
returns c = c.starts_with.ensures.value ∙ three_is _ _
