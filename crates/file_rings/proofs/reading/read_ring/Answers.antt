-- `read_ring` meets its contract. Assumes nothing.
use mathlib.Core.Path.{refl}
use Rattle.file_rings.proofs.RingRead.{row_cleared, ring_padded}
use Rattle.file_rings.proofs.reading.read_ring.Goals as goal

pub returns : goal.returns
returns c =
    ring_padded c.requires.row (row_cleared c.args.v c.requires.most_valence_in_bounds c.write_unused.ensures) c.read_neighbours.ensures refl
