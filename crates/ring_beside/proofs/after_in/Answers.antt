-- `after_in` meets its contract. Assumes nothing.
use Rattle.ring_beside.proofs.BesideFound.{after_at_lem, after_absent}
use Rattle.ring_beside.proofs.after_in.Goals as goal

pub returns-then-i-ring : goal.returns-then-i-ring
returns-then-i-ring c = search (after_at_lem)

pub returns : goal.returns
returns c = search (after_absent)
