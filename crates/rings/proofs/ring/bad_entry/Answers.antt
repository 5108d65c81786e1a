-- `bad_entry` meets its contract. Assumes nothing.
use native.Mathlib.Omega.{arith}
use Rattle.std.proofs.lemmas.Bool.Decides.{nat_tests}
use Rattle.mesh.specs.Tests.{repeat_at, bad_at}
use Rattle.rings.proofs.ring.bad_entry.Goals as goal

pub returns-then-u-v : goal.returns-then-u-v
unfolding bad_at repeat_at
returns-then-u-v c = grind (arith, nat_tests)

pub returns-else-u-v : goal.returns-else-u-v
unfolding bad_at repeat_at
returns-else-u-v c = grind (arith, nat_tests)
