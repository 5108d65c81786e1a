-- `is_there` meets its contract. Assumes nothing.
use Rattle.mesh.proofs.Places.{has_test}
use Rattle.rings.proofs.ring.is_there.Goals as goal

pub returns : goal.returns
returns c = search has_test
