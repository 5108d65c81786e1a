-- `text_length` meets its contract. Assumes nothing.
use native.Mathlib.Omega.{arith}
use Rattle.off_length.specs.Length.{text_length}
use Rattle.off_length.proofs.text_length.Goals as goal

pub returns : goal.returns
unfolding text_length
returns c = omega arith
