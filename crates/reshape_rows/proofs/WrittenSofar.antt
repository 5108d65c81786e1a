-- Rows written one after the other: a row that is not written yet is as it was, so each is worked out from the old rings.
-- Assumes nothing.
use mathlib.Core.Path.{◌≡◌, refl, sym, ap, ap₂, ◌∙◌, subst}
use mathlib.Core.Bool.{true}
use mathlib.Core.List.{List, [], ◌∷◌}
use Prim.Native.Nat.{ℕ, ◌≤◌}
use native.Mathlib.Omega.{arith}
use lib.ListN.{length, get_or}
use Rattle.mesh.specs.Limits.{most_valence}
use Rattle.mesh.specs.Ring.{◌∈◌}
use Rattle.mesh.specs.Edits.{erase, replace, insert_after}
use Rattle.mesh.proofs.EditedEntries.{erase_length, replace_length, insert_after_length}
use Rattle.rings.specs.Table.{Lent, lent, valence_at, ring_of}
use Rattle.ring_row.specs.Places.{Editable}
use Rattle.ring_row.specs.Edit.{valences_with, rings_with}
use Rattle.reshape.specs.Rows.{Row, row}
use Rattle.reshape_tables.specs.Written.{valences_by, rings_by}
use Rattle.reshape_tables.proofs.RowsWritten.{Writable, Unnamed, editable_by, valence_unnamed, ring_unnamed}
use Rattle.reshape_entry.specs.Ready.{Ready}
use Rattle.reshape_entry.proofs.EntryWritten.{Wrote, ready_valence, ready_long}

-- the tables with these rows
pub record Sofar (l : List Row) (t t' : Lent) : Type 0 where
  pub rings : t'.rings ≡ rings_by l t.rings
  pub valences : t'.valences ≡ valences_by l t.valences
  pub fit : Writable t l

pub none_yet : {t : Lent} → Sofar [] t t
none_yet = record { rings = refl; valences = refl; fit = tt }

module _ {l : List Row} {t t' : Lent} (f : Sofar l t t') where
  -- one row more, whole
  pub row_on : {t'' : Lent} {v : ℕ} {ring : List ℕ} → Editable t v → length ring ≤ most_valence → Wrote t' v ring t''
      → Sofar (row v ring ∷ l) t t''
  row_on {v = v} {ring = ring} e h w = record {
    rings = w.0 ∙ ap (λ (table : List ℕ). rings_with true table v ring) f.rings;
    valences = w.1 ∙ ap (λ (table : List ℕ). valences_with true table v ring) f.valences;
    fit = (e, (h, f.fit));
  }

  module _ {more v c : ℕ} (r : Ready more t v c) (d : Unnamed v l) where
    ring_on : ring_of t' v ≡ ring_of t v
    ring_on =
        ap₂ (λ (a b : List ℕ). ring_of (lent a b) v) f.valences f.rings
        ∙ ring_unnamed t l f.fit v d (ready_valence r)

    pub ready_on : Ready more t' v c
    ready_on =
        let k : valence_at t' v ≡ valence_at t v = ap (λ (table : List ℕ). get_or table v 0) f.valences ∙ valence_unnamed t l f.fit v d in
        record {
          row = rw (f.valences, f.rings) (editable_by t l f.fit r.row);
          room = omega (arith, r.room);
          there = subst (λ (table : List ℕ). c ∈ table) (sym ring_on) r.there;
        }

    edit_on : {t'' : Lent} (edit : List ℕ → List ℕ) → length (edit (ring_of t v)) ≤ most_valence
        → Wrote t' v (edit (ring_of t' v)) t'' → Sofar (row v (edit (ring_of t v)) ∷ l) t t''
    edit_on edit h w = row_on r.row h (rw ring_on at w)

  module _ {t'' : Lent} {v c : ℕ} where
    pub put_on : Ready 1 t v c → Unnamed v l → (x : ℕ) → Wrote t' v (insert_after c x (ring_of t' v)) t''
        → Sofar (row v (insert_after c x (ring_of t v)) ∷ l) t t''
    put_on r d x w =
        edit_on r d (insert_after c x) (omega (arith, insert_after_length c (ring_of t v) r.there x, ready_long r, r.room)) w

    pub out_on : Ready 0 t v c → Unnamed v l → Wrote t' v (erase c (ring_of t' v)) t''
        → Sofar (row v (erase c (ring_of t v)) ∷ l) t t''
    out_on r d w = edit_on r d (erase c) (omega (arith, erase_length c (ring_of t v) r.there, ready_long r, r.room)) w

    pub exchanged_on : Ready 0 t v c → Unnamed v l → (x : ℕ) → Wrote t' v (replace c x (ring_of t' v)) t''
        → Sofar (row v (replace c x (ring_of t v)) ∷ l) t t''
    exchanged_on r d x w =
        edit_on r d (replace c x) (omega (arith, replace_length c (ring_of t v) r.there x, ready_long r, r.room)) w
