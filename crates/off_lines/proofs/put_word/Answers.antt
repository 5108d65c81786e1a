-- `put_word` meets its contract. Assumes nothing.
use native.Mathlib.Omega.{arith}
use Rattle.rings.specs.Table.{put}
use Rattle.off_lines.proofs.put_word.Goals as goal

pub returns : goal.returns
unfolding put
returns c = record { fits = omega arith; is = rw c.copy_from_slice.ensures.after }
