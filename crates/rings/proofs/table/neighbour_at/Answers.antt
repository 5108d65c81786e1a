-- `neighbour_at` meets its contract. Assumes nothing.
use Rattle.rings.proofs.Rows.{fit_row, fit_below}
use Rattle.rings.proofs.table.neighbour_at.Goals as goal

pub ring_of-ring-requires : goal.ring_of-ring-requires
ring_of-ring-requires c = search fit_row

pub returns-clause-upper_bound : goal.returns-clause-upper_bound
returns-clause-upper_bound c = search fit_below
