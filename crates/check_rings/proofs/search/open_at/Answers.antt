-- `open_at` meets its contract. Assumes nothing.
use Rattle.rings.proofs.Rows.{fit_row, fit_after, open_no, open_last}
use Rattle.check_rings.proofs.search.open_at.Goals as goal

pub ring_of-requires : goal.ring_of-requires
ring_of-requires c = search fit_row

pub ring_of-requires-else-not-follows_in : goal.ring_of-requires-else-not-follows_in
ring_of-requires-else-not-follows_in c = search fit_row

pub returns-then-not-follows_in : goal.returns-then-not-follows_in
returns-then-not-follows_in c = search (open_no, fit_after)

pub returns-else-not-follows_in : goal.returns-else-not-follows_in
returns-else-not-follows_in c = search (open_last, fit_after) fits 30000
