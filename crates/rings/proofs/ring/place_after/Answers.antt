-- `place_after` meets its contract. Assumes nothing.
use Rattle.mesh.proofs.Places.{after_last, after_other}
use Rattle.rings.proofs.ring.place_after.Goals as goal

pub returns-then-i-n-clause-value : goal.returns-then-i-n-clause-value
returns-then-i-n-clause-value c = search (after_last)

pub returns-else-i-n-clause-value : goal.returns-else-i-n-clause-value
returns-else-i-n-clause-value c = search (after_other, c.if-i-n.false)
