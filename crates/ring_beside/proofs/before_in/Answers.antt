-- `before_in` meets its contract. Assumes nothing.
use Rattle.ring_beside.proofs.BesideFound.{before_at, before_absent}
use Rattle.ring_beside.proofs.before_in.Goals as goal

pub returns-then-i-ring : goal.returns-then-i-ring
returns-then-i-ring c = search (before_at)

pub returns : goal.returns
returns c = search (before_absent)
