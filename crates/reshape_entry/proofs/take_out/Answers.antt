-- `take_out` meets its contract. Assumes nothing.
use mathlib.Core.Path.{◌∙◌, ap}
use Rattle.mesh.specs.Ring.{place}
use Rattle.reshape_entry.proofs.EntryWritten.{ready_valence, ready_place, entry_out}
use Rattle.reshape_entry.proofs.take_out.Goals as goal

pub erase_at-requires : goal.erase_at-requires
erase_at-requires c =
    let r = c.requires in
    record { editable = r.row; i_bound = ready_place r _ (c.seek-i.ensures ∙ ap (place _) c.ring_of.ensures.result_value); v_bound = ready_valence r }

pub returns : goal.returns
returns c =
    let t = entry_out _ _ _ c.requires _ (c.seek-i.ensures ∙ ap (place _) c.ring_of.ensures.result_value) _ _ c.erase_at.ensures.rings_after c.erase_at.ensures.valences_after in
    record { rings_after = t.0; valences_after = t.1 }
