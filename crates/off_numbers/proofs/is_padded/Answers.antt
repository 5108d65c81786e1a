-- `is_padded` meets its contract. Assumes nothing.
use native.Mathlib.Omega.{arith}
use Rattle.std.proofs.lemmas.Bool.Decides.{nat_tests}
use Rattle.off_numbers.specs.Text.{padded}
use Rattle.off_numbers.proofs.is_padded.Goals as goal

pub returns-then-count-ne1 : goal.returns-then-count-ne1
unfolding padded
returns-then-count-ne1 c = grind (arith, nat_tests)

pub returns-else-count-ne1 : goal.returns-else-count-ne1
unfolding padded
returns-else-count-ne1 c = grind (arith, nat_tests)
