-- `is_word` meets its contract. Assumes nothing.
use mathlib.Core.Path.{◌∙◌}
use Rattle.off_layout.proofs.Lines.{word_is}
use Rattle.off_layout.proofs.is_word.Goals as goal

pub returns : goal.returns
returns c = c.starts_with.ensures.value ∙ word_is _
