-- `put_at` meets its contract. Assumes nothing.
use mathlib.Core.Path.{ap, ◌∙◌}
use lib.Seq.{take-set-lt}
use Rattle.rings.specs.Table.{padded}
use Rattle.ring_row.proofs.row.put_at.Goals as goal

pub returns : goal.returns
returns c = c.pad.ensures ∙ ap padded (take-set-lt _ _ _ _ c.requires.i_lt_n)
