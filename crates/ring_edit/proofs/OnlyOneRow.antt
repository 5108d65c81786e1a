-- An edit writes v's row and v's valence and nothing else, whatever it is told and whether or not it is accepted (document 01, "Ring rules"):
-- both tables keep their lengths, every other valence, every place outside the row, and so the ring of every other vertex.
-- Assumes nothing.
use mathlib.Core.Path.{◌≡◌, refl}
use mathlib.Core.Bool.{Bool, true, false}
use mathlib.Core.List.{List}
use mathlib.Core.Logic.{◌≢◌}
use Prim.Native.Nat.{ℕ, ◌≤◌}
use lib.ListN.{length}
use Rattle.mesh.specs.Limits.{most_valence}
use Rattle.rings.specs.Table.{Lent, lent, valence_at, ring_of}
use Rattle.rings.specs.Verdict.{after}
use Rattle.ring_row.specs.Places.{Editable}
use Rattle.ring_row.specs.Edit.{Edit, valences_with, rings_with, valences_after, rings_after}
use Rattle.ring_row.proofs.OneRow.{OneRow, other_ring, written_one_row}
use Rattle.ring_edit.specs.AnyEdit.{Call, edit_of}
use Rattle.ring_edit.proofs.Tables.{tabled_editable}
use Rattle.ring_edit.proofs.AcceptedEdits.{fair}
use Rattle.rings.specs.Refusal.{Verdict}
use Rattle.std.specs.Prelude.{Ok, Err}

module _ (t : Lent) (v : ℕ) where
  none_written : OneRow t v t
  none_written = record { valences_long = refl; rings_long = refl; valence = λ u d. refl; before = λ j h. refl; behind = λ j h. refl }

  effect_one_row : (effect : Bool) (ring : List ℕ) → Editable t v × (length ring ≤ most_valence)
      → OneRow t v (lent (valences_with effect t.valences v ring) (rings_with effect t.rings v ring))
  unfolding valences_with rings_with
  effect_one_row true ring g = written_one_row t v g.0 ring g.1
  effect_one_row false ring g = none_written

  edit_one_row : (e : Edit) → ((Ok tt) ≡ e.verdict → Editable t v × (length e.ring ≤ most_valence))
      → OneRow t v (lent (valences_after e t.valences v) (rings_after e t.rings v))
  unfolding valences_after rings_after after
  edit_one_row e h = go e.verdict h
    where
      go : (w : Verdict) → ((Ok tt) ≡ w → Editable t v × (length e.ring ≤ most_valence))
          → OneRow t v (lent (after w (valences_with e.effect t.valences v e.ring) t.valences) (after w (rings_with e.effect t.rings v e.ring) t.rings))
      go (Ok u) g = effect_one_row e.effect e.ring (g refl)
      go (Err r) g = none_written

module _ (n : ℕ) (t : Lent) (v : ℕ) (k : Call) where
  -- the theorem
  pub only_one_row : let e = edit_of n t v k in OneRow t v (lent (valences_after e t.valences v) (rings_after e t.rings v))
  only_one_row =
      let f = fair n t v k in
      edit_one_row t v (edit_of n t v k) (λ h. (tabled_editable n t v (f.tables h), (f.proper h).short))

  -- and for the rings
  pub other_rings_stay : (u : ℕ) → u ≢ v → valence_at t u ≤ most_valence
      → let e = edit_of n t v k in ring_of (lent (valences_after e t.valences v) (rings_after e t.rings v)) u ≡ ring_of t u
  other_rings_stay u d m = other_ring only_one_row u d m
