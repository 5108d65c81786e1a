-- `lacks_at` meets its contract. Assumes nothing.
use Rattle.rings.proofs.Rows.{fit_row, lacks_is}
use Rattle.check_rings.proofs.search.lacks_at.Goals as goal

pub ring_of-requires : goal.ring_of-requires
ring_of-requires c = search fit_row

pub returns : goal.returns
returns c = search lacks_is
