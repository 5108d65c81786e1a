-- `erase_at` meets its contract. Assumes nothing.
use Rattle.ring_row.proofs.TablesWritten.{at_erased}
use Rattle.ring_row.proofs.places.erase_at.Goals as goal

pub returns : goal.returns
returns c =
    let t = at_erased _ _ c.requires.editable c.requires.v_bound _ c.requires.i_bound _ c.close_up.ensures in
    record { rings_after = t.0; valences_after = t.1 }
