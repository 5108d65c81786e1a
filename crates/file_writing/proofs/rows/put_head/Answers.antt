-- `put_head` meets its contract. Assumes nothing.
use mathlib.Core.Path.{refl}
use Rattle.file_format.proofs.Blocks.{then}
use Rattle.file_writing.proofs.rows.put_head.Goals as goal

pub returns : goal.returns
returns c = then c.put_four.ensures c.put_two.ensures refl
