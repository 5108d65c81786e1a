-- One entry of a row, as the row functions write it by its place. Assumes nothing.
use mathlib.Core.Path.{◌≡◌, sym, ap, ◌∙◌}
use mathlib.Core.Bool.{true}
use mathlib.Core.List.{List}
use Prim.Native.Nat.{ℕ, suc, ◌+◌, ◌≤◌, ◌<◌}
use native.Mathlib.Numerals.{add-one}
use native.Mathlib.Omega.{arith}
use lib.ListN.{length, set}
use borrow.Author.Tests.{lt-leb}
use Rattle.mesh.specs.Limits.{most_valence}
use Rattle.mesh.specs.Ring.{place}
use Rattle.mesh.specs.Edits.{closed, opened, erase, replace, insert_after}
use Rattle.mesh.proofs.Rings.{place_lt}
use Rattle.mesh.proofs.EditedEntries.{erase_there, replace_there, insert_after_there}
use Rattle.rings.specs.Table.{Lent, lent, valence_at, ring_of}
use Rattle.rings.specs.Verdict.{refuse_if, after}
use Rattle.ring_row.specs.Places.{open_edit}
use Rattle.ring_row.specs.Edit.{valences_with, rings_with, valences_after, rings_after}
use Rattle.ring_row.proofs.TablesWritten.{ring_long, valence_kept}
use Rattle.reshape_entry.specs.Ready.{Ready}
use Rattle.std.specs.Prelude.{Ok}

-- the tables once v's row and valence are written
abbrev pub Wrote : Lent → ℕ → List ℕ → Lent → Type 0
Wrote t v ring t' = (t'.rings ≡ rings_with true t.rings v ring) × (t'.valences ≡ valences_with true t.valences v ring)

module _ {more : ℕ} {t : Lent} {v c : ℕ} (r : Ready more t v c) where
  pub ready_valence : valence_at t v ≤ most_valence
  ready_valence = omega (arith, r.room)

  pub ready_long : length (ring_of t v) ≡ valence_at t v
  ready_long = ring_long t v r.row ready_valence

  pub ready_place : (i : ℕ) → i ≡ place c (ring_of t v) → i < valence_at t v
  ready_place i e = omega (arith, place_lt c (ring_of t v) r.there, ready_long)

module _ (t : Lent) (v c : ℕ) where
  -- there is room, so 16 does not refuse it
  pub put_accepted : Ready 1 t v c → (i x : ℕ) → (open_edit t v i x).verdict ≡ Ok tt
  unfolding open_edit refuse_if
  put_accepted r i x = rw (lt-leb most_valence (valence_at t v) (omega (arith, r.room)))

  pub entry_put : Ready 1 t v c → (i x : ℕ) → i ≡ place c (ring_of t v) → (rs' vs' : List ℕ)
      → rs' ≡ rings_after (open_edit t v (i + 1) x) t.rings v → vs' ≡ valences_after (open_edit t v (i + 1) x) t.valences v
      → Wrote t v (insert_after c x (ring_of t v)) (lent vs' rs')
  unfolding rings_after valences_after open_edit refuse_if after
  entry_put r i x e rs' vs' a b =
      let ring : List ℕ = ring_of t v in
      let k : opened ring (i + 1) x ≡ insert_after c x ring =
      ap (λ j. opened ring j x) (add-one i ∙ ap suc e) ∙ sym (insert_after_there c ring r.there x) in
      let z = lt-leb most_valence (valence_at t v) (omega (arith, r.room)) in
      ((rw z at a) ∙ ap (rings_with true t.rings v) k, (rw z at b) ∙ ap (valences_with true t.valences v) k)

  pub entry_out : Ready 0 t v c → (i : ℕ) → i ≡ place c (ring_of t v) → (rs' vs' : List ℕ)
      → rs' ≡ rings_with true t.rings v (closed (ring_of t v) i) → vs' ≡ valences_with true t.valences v (closed (ring_of t v) i)
      → Wrote t v (erase c (ring_of t v)) (lent vs' rs')
  entry_out r i e rs' vs' a b =
      let ring : List ℕ = ring_of t v in
      let k : closed ring i ≡ erase c ring = ap (closed ring) e ∙ sym (erase_there c ring r.there) in
      (a ∙ ap (rings_with true t.rings v) k, b ∙ ap (valences_with true t.valences v) k)

  pub entry_exchanged : Ready 0 t v c → (i x : ℕ) → i ≡ place c (ring_of t v) → (rs' : List ℕ)
      → rs' ≡ rings_with true t.rings v (set (ring_of t v) i x)
      → Wrote t v (replace c x (ring_of t v)) (lent t.valences rs')
  entry_exchanged r i x e rs' a =
      let ring : List ℕ = ring_of t v in
      let k : set ring i x ≡ replace c x ring = ap (λ j. set ring j x) e ∙ sym (replace_there c ring r.there x) in
      (a ∙ ap (rings_with true t.rings v) k, valence_kept t v r.row (ready_valence r) i x ∙ ap (valences_with true t.valences v) k)
