-- `is_bad_face` meets its contract. Assumes nothing.
use native.Mathlib.Omega.{arith}
use Rattle.std.proofs.lemmas.Bool.Decides.{nat_tests}
use Rattle.off_rings.specs.Faces.{bad_face}
use Rattle.off_layout.proofs.is_bad_face.Goals as goal

pub returns-then-count-b : goal.returns-then-count-b
unfolding bad_face
returns-then-count-b c = grind (arith, nat_tests)

pub returns-else-count-b : goal.returns-else-count-b
unfolding bad_face
returns-else-count-b c = grind (arith, nat_tests)
