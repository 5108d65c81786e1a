-- `put_after` meets its contract. Assumes nothing.
use mathlib.Core.Path.{◌∙◌, ap}
use native.Mathlib.Omega.{arith}
use Rattle.mesh.specs.Ring.{place}
use Rattle.reshape_entry.proofs.EntryWritten.{ready_valence, ready_place, put_accepted, entry_put}
use Rattle.reshape_entry.proofs.put_after.Goals as goal

pub overflow_add-i : goal.overflow_add-i
overflow_add-i c =
    let h = ready_place c.requires.ready _ (c.seek-i.ensures ∙ ap (place _) c.ring_of.ensures.result_value) in
    omega (arith, c.requires.ready.room)

pub insert_at-requires : goal.insert_at-requires
insert_at-requires c =
    let r = c.requires.ready in
    let e = c.seek-i.ensures ∙ ap (place _) c.ring_of.ensures.result_value in
    let h = ready_place r _ e in
    record { editable = r.row; i_bound = omega arith; v_bound = ready_valence r; x_lt_place_bound = omega (arith, c.requires.x_lt_null_vertex) }

pub unwrap-requires : goal.unwrap-requires
unwrap-requires c = rw (c.insert_at.ensures.value ∙ put_accepted _ _ _ c.requires.ready _ _)

pub returns : goal.returns
returns c =
    let t = let e = c.seek-i.ensures ∙ ap (place _) c.ring_of.ensures.result_value in
    entry_put _ _ _ c.requires.ready _ _ e _ _ c.insert_at.ensures.rings_after c.insert_at.ensures.valences_after in
    record { rings_after = t.0; valences_after = t.1 }
