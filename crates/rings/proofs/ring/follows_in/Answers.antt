-- `follows_in` meets its contract. Assumes nothing.
use mathlib.Core.Path.{◌∙◌}
use borrow.Author.Tests.{le-ltb}
use Rattle.mesh.proofs.Places.{follows_at, follows_absent}
use Rattle.rings.proofs.ring.follows_in.Goals as goal

pub returns-then-i-ring : goal.returns-then-i-ring
returns-then-i-ring c = search follows_at

pub returns-else-i-ring : goal.returns-else-i-ring
returns-else-i-ring c = le-ltb _ _ c.if-i-ring.false ∙ search follows_absent
