-- `far_at` meets its contract. Assumes nothing.
use native.Mathlib.Omega.{arith}
use Rattle.std.proofs.lemmas.Int.{ints}
use Rattle.off_text.specs.ReadOff.{text_beyond}
use Rattle.off_points.proofs.far_at.Goals as goal

pub returns-then-is_beyond-2-clause-far_value : goal.returns-then-is_beyond-2-clause-far_value
unfolding text_beyond
returns-then-is_beyond-2-clause-far_value c = grind (arith, ints)

pub returns-else-is_beyond-2-clause-far_value : goal.returns-else-is_beyond-2-clause-far_value
unfolding text_beyond
returns-else-is_beyond-2-clause-far_value c = grind (arith, ints)
