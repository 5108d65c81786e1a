-- `insert_after` meets its contract. Assumes nothing.
use Rattle.ring_edit.proofs.Edited.{after_told}
use Rattle.ring_edit.proofs.edits.insert_after.Goals as goal

pub returns : goal.returns
returns c =
    let t = after_told _ _ _ _ _ _ _ _ (c.insert_beside.ensures.value, (c.insert_beside.ensures.rings_after, c.insert_beside.ensures.valences_after)) in
    record { value = t.0; rings_after = t.1.0; valences_after = t.1.1 }
