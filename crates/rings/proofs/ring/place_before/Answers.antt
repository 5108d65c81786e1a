-- `place_before` meets its contract. Assumes nothing.
use Rattle.mesh.proofs.Places.{before_first, before_other}
use Rattle.rings.proofs.ring.place_before.Goals as goal

pub returns-then-i-eq0-clause-value : goal.returns-then-i-eq0-clause-value
returns-then-i-eq0-clause-value c = search (before_first)

pub returns-else-i-eq0-clause-value : goal.returns-else-i-eq0-clause-value
returns-else-i-eq0-clause-value c = search (before_other, c.if-i-eq0.false)
