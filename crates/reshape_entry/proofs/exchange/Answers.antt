-- `exchange` meets its contract. Assumes nothing.
use mathlib.Core.Path.{◌∙◌, ap}
use native.Mathlib.Omega.{arith}
use Rattle.mesh.specs.Ring.{place}
use Rattle.reshape_entry.proofs.EntryWritten.{ready_valence, ready_place, entry_exchanged}
use Rattle.reshape_entry.proofs.exchange.Goals as goal

pub replace_at-requires : goal.replace_at-requires
replace_at-requires c =
    let r = c.requires.ready in
    record { editable = r.row; i_bound = ready_place r _ (c.seek-i.ensures ∙ ap (place _) c.ring_of.ensures.result_value); v_bound = ready_valence r; x_lt_place_bound = omega (arith, c.requires.x_lt_null_vertex) }

pub returns : goal.returns
returns c =
    let t = entry_exchanged _ _ _ c.requires.ready _ _ (c.seek-i.ensures ∙ ap (place _) c.ring_of.ensures.result_value) _ c.replace_at.ensures in
    record { rings_after = t.0; valences_value = t.1 }
