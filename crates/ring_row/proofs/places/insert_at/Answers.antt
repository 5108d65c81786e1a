-- `insert_at` meets its contract. Assumes nothing.
use Rattle.ring_row.proofs.TablesWritten.{at_full, at_opened}
use Rattle.ring_row.proofs.places.insert_at.Goals as goal

pub returns-then-n-ge-MOST_VALENCE : goal.returns-then-n-ge-MOST_VALENCE
returns-then-n-ge-MOST_VALENCE c =
    let t = at_full _ _ c.requires.editable c.requires.v_bound _ _ c.if-n-ge-MOST_VALENCE.true in
    record { value = t.0; rings_after = t.1.0; valences_after = t.1.1 }

pub returns : goal.returns
returns c =
    let t = at_opened _ _ c.requires.editable c.requires.v_bound _ _ c.requires.i_bound c.if-n-ge-MOST_VALENCE.false _ c.open_up.ensures in
    record { value = t.0; rings_after = t.1.0; valences_after = t.1.1 }
