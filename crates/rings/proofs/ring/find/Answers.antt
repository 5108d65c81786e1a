-- `find` meets its contract. Assumes nothing.
use Rattle.mesh.proofs.Places.{place_of_at, place_of_absent}
use Rattle.rings.proofs.ring.find.Goals as goal

pub returns-then-i-ring : goal.returns-then-i-ring
returns-then-i-ring c = search (place_of_at)

pub returns-else-i-ring : goal.returns-else-i-ring
returns-else-i-ring c = search (place_of_absent)
