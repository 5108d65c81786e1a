-- A refused edit, and an edit that has no effect, leave both tables as they were (document 01, "Ring rules" and "What comes back when we say no").
-- Assumes nothing.
use mathlib.Core.Path.{◌≡◌, refl, sym}
use mathlib.Core.Bool.{false}
use Prim.Native.Nat.{ℕ}
use Rattle.rings.specs.Table.{Lent}
use Rattle.rings.specs.declared.Refusal.{Refusal}
use Rattle.ring_row.specs.Edit.{Edit, valences_after, rings_after}
use Rattle.ring_row.proofs.TablesWritten.{edit_refused, edit_idle}
use Rattle.rings.specs.Refusal.{Verdict}
use Rattle.std.specs.Prelude.{Ok, Err}

module _ (t : Lent) (v : ℕ) (e : Edit) where
  pub refused_writes_nothing : (r : Refusal) → e.verdict ≡ Err r → (t.rings ≡ rings_after e t.rings v) × (t.valences ≡ valences_after e t.valences v)
  refused_writes_nothing r h = edit_refused t v e r (sym h)

  pub no_effect_writes_nothing : e.effect ≡ false → (t.rings ≡ rings_after e t.rings v) × (t.valences ≡ valences_after e t.valences v)
  no_effect_writes_nothing q = go e.verdict refl
    where
      go : (w : Verdict) → w ≡ e.verdict → (t.rings ≡ rings_after e t.rings v) × (t.valences ≡ valences_after e t.valences v)
      go (Ok u) h = edit_idle t v e h q
      go (Err r) h = edit_refused t v e r h
