-- After an accepted edit the ring of v is the edited list, and it is proper (document 01, "Ring rules"); that v's old ring was proper
-- is what reason 4 judged, and a make asks nothing of it.
-- Assumes nothing.
use mathlib.Core.Path.{◌≡◌, refl, sym, ◌∙◌}
use mathlib.Core.Bool.{Bool, true, false}
use mathlib.Core.List.{List}
use Prim.Native.Nat.{ℕ, ◌<◌}
use Rattle.mesh.specs.Mesh.{Proper}
use Rattle.rings.specs.Table.{Lent, lent, ring_of, rows}
use Rattle.rings.specs.Verdict.{after}
use Rattle.rings.proofs.Rows.{rows_ring}
use Rattle.ring_row.specs.Places.{Editable}
use Rattle.ring_row.specs.Edit.{Edit, valences_with, rings_with, valences_after, rings_after}
use Rattle.ring_row.proofs.OneRow.{written_ring}
use Rattle.ring_edit.specs.AnyEdit.{Call, edit_of}
use Rattle.ring_judge.proofs.Judged.{tabled}
use Rattle.ring_edit.proofs.Tables.{tabled_editable}
use Rattle.ring_edit.proofs.ProperLists.{alone, same_proper}
use Rattle.ring_edit.proofs.AcceptedEdits.{fair}
use Rattle.std.specs.Prelude.{Ok}

module _ (t : Lent) (v : ℕ) where
  effect_ring : (effect : Bool) (ring : List ℕ) → Editable t v → (effect ≡ false → ring ≡ ring_of t v)
      → ring_of (lent (valences_with effect t.valences v ring) (rings_with effect t.rings v ring)) v ≡ ring
  unfolding valences_with rings_with
  effect_ring true ring ed idle = written_ring t v ed ring
  effect_ring false ring ed idle = sym (idle refl)

  edited_ring : (e : Edit) → Editable t v → (e.effect ≡ false → e.ring ≡ ring_of t v) → (Ok tt) ≡ e.verdict
      → ring_of (lent (valences_after e t.valences v) (rings_after e t.rings v)) v ≡ e.ring
  unfolding valences_after rings_after after
  edited_ring e ed idle h = rw (← h) (effect_ring e.effect e.ring ed idle)

module _ (n : ℕ) (t : Lent) (v : ℕ) (k : Call) (accepted : (edit_of n t v k).verdict ≡ (Ok tt)) where
  -- the ring of v is what the edit says
  pub ring_after : let e = edit_of n t v k in ring_of (lent (valences_after e t.valences v) (rings_after e t.rings v)) v ≡ e.ring
  ring_after =
      let f = fair n t v k in
      edited_ring t v (edit_of n t v k) (tabled_editable n t v (f.tables (sym accepted))) f.idle (sym accepted)

  -- and it is proper
  pub stays_proper : let e = edit_of n t v k in Proper (rows n (lent (valences_after e t.valences v) (rings_after e t.rings v))) v
  unfolding rows
  stays_proper =
      let f = fair n t v k in
      let e : Edit = edit_of n t v k in
      let l : v < n = (tabled n t v (f.tables (sym accepted))).below in
      same_proper (alone n e.ring) (rows n (lent (valences_after e t.valences v) (rings_after e t.rings v))) v refl
      (sym (rows_ring n (lent (valences_after e t.valences v) (rings_after e t.rings v)) v l ∙ ring_after)) (f.proper (sym accepted))
