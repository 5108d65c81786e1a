-- `write_ring` meets its contract. Assumes nothing.
use mathlib.Core.Path.{refl}
use Rattle.ring_row.proofs.TablesWritten.{row_written}
use Rattle.ring_row.proofs.places.write_ring.Goals as goal

pub returns : goal.returns
returns c =
    let t = row_written _ _ _ _ refl c.requires.list_len_bound _ c.write.ensures in
    record { rings_after = t.0; valences_after = t.1 }
