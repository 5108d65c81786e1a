-- The two tables after an edit: what an edit's outcome says of both, and a row that was written whole in the table of rings. Assumes nothing.
use Prim.Native.Nat.{ℕ, ◌+◌, ◌-◌, ◌*◌, ◌≤◌, ◌<◌}
use mathlib.Core.Path.{◌≡◌, refl, sym, ap, ◌∙◌}
use mathlib.Core.Bool.{true, false}
use mathlib.Core.List.{List}
use native.Mathlib.Omega.{arith}
use lib.ListN.{length, take, drop, set, length-set}
use lib.Seq.{take-take, drop-drop, set-get_or}
use borrow.Author.Tests.{le-leb, lt-leb}
use borrow.Rule.Slice.PartMut.{put_mid}
use Rattle.mesh.specs.Edits.{closed, opened}
use Rattle.mesh.proofs.EditPlaces.{opened_length, closed_length}
use Rattle.rings.specs.Table.{Lent, valence_at, put, ring_of, padded}
use Rattle.rings.specs.Verdict.{refuse_if, after}
use Rattle.rings.specs.declared.Refusal.{Refusal}
use Rattle.rings.specs.declared.Refusal.TheVariants.{RingFull}
use Rattle.rings.proofs.Rows.{row_length}
use Rattle.rings.proofs.Tables.{length_padded}
use Rattle.ring_row.specs.Places.{Editable, open_edit}
use Rattle.ring_row.specs.Edit.{Edit, valences_with, rings_with, valences_after, rings_after}
use Rattle.std.specs.Prelude.{Ok, Err}

-- ---- what a call says of the tables, by its outcome

module _ (t : Lent) (v : ℕ) (e : Edit) where
  pub edit_refused : (r : Refusal) → Err r ≡ e.verdict → (t.rings ≡ rings_after e t.rings v) × (t.valences ≡ valences_after e t.valences v)
  unfolding rings_after valences_after after
  edit_refused r h = (rw (← h), rw (← h))

  module _ (h : (Ok tt) ≡ e.verdict) where
    pub edit_idle : e.effect ≡ false → (t.rings ≡ rings_after e t.rings v) × (t.valences ≡ valences_after e t.valences v)
    unfolding rings_after valences_after after rings_with valences_with
    edit_idle q = (rw (← h, q), rw (← h, q))

    pub edit_done : e.effect ≡ true → (ring : List ℕ) → ring ≡ e.ring → (rs' vs' : List ℕ) → rs' ≡ rings_with true t.rings v ring → vs' ≡ valences_with true t.valences v ring
        → (rs' ≡ rings_after e t.rings v) × (vs' ≡ valences_after e t.valences v)
    unfolding rings_after valences_after after
    edit_done q ring p rs' vs' a b = (rw (← h, q, ← p) a, rw (← h, q, ← p) b)

-- ---- a row written

row_wide : (v : ℕ) → v * 32 + 32 - v * 32 ≡ 32
row_wide v = omega arith

-- one law for all edits: the row holds the ring and the padding, and the valence is the ring's length
pub row_written : (t : Lent) (v : ℕ) (ring : List ℕ) (m : ℕ) → length ring ≡ m → m ≤ 32 → (row : List ℕ) → row ≡ padded ring
    → (put_mid (v * 32) (v * 32 + 32 - v * 32) t.rings row ≡ rings_with true t.rings v ring) × (set t.valences v m ≡ valences_with true t.valences v ring)
unfolding rings_with valences_with put
row_written t v ring m e h row q =
    let l : length row ≡ 32 = ap length q ∙ length_padded ring (omega arith) in
    let k = row_wide v in
    (rw (k, ← q, l, drop-drop), ap (set t.valences v) (sym e))

module _ (t : Lent) (v : ℕ) (ed : Editable t v) (most : valence_at t v ≤ 32) where
  pub ring_long : length (ring_of t v) ≡ valence_at t v
  ring_long = row_length t v (record { valence = ed.valence; row = let a = ed.row in omega arith })

  -- the ring at the front of the row that is lent
  front : take (valence_at t v) (take (v * 32 + 32 - v * 32) (drop (v * 32) t.rings)) ≡ ring_of t v
  unfolding ring_of
  front = let k = row_wide v in rw k (take-take (valence_at t v) 32 (drop (v * 32) t.rings) most)

  module _ (i : ℕ) where
    pub at_erased : i < valence_at t v → (row : List ℕ) → row ≡ padded (closed (take (valence_at t v) (take (v * 32 + 32 - v * 32) (drop (v * 32) t.rings))) i)
        → (put_mid (v * 32) (v * 32 + 32 - v * 32) t.rings row ≡ rings_with true t.rings v (closed (ring_of t v) i)) × (set t.valences v (valence_at t v - 1) ≡ valences_with true t.valences v (closed (ring_of t v) i))
    at_erased h row q =
        let l = ring_long in
        row_written t v (closed (ring_of t v) i) (valence_at t v - 1) (omega (arith, closed_length (ring_of t v) i (omega arith))) (omega arith) row
        (q ∙ ap (λ (r : List ℕ). padded (closed r i)) front)

    pub at_replaced : (x : ℕ) (row : List ℕ) → row ≡ padded (set (take (valence_at t v) (take (v * 32 + 32 - v * 32) (drop (v * 32) t.rings))) i x)
        → put_mid (v * 32) (v * 32 + 32 - v * 32) t.rings row ≡ rings_with true t.rings v (set (ring_of t v) i x)
    at_replaced x row q = (row_written t v (set (ring_of t v) i x) (valence_at t v) (length-set (ring_of t v) i x ∙ ring_long) most row (q ∙ ap (λ (r : List ℕ). padded (set r i x)) front)).0

    -- replacing keeps the valence
    pub valence_kept : (x : ℕ) → t.valences ≡ valences_with true t.valences v (set (ring_of t v) i x)
    unfolding valences_with
    valence_kept x = sym (ap (set t.valences v) (length-set (ring_of t v) i x ∙ ring_long) ∙ set-get_or t.valences v 0)

    pub at_opened : (x : ℕ) → i ≤ valence_at t v → valence_at t v < 32 → (row : List ℕ) → row ≡ padded (opened (take (valence_at t v) (take (v * 32 + 32 - v * 32) (drop (v * 32) t.rings))) i x)
        → ((Ok tt) ≡ (open_edit t v i x).verdict)
        × ((put_mid (v * 32) (v * 32 + 32 - v * 32) t.rings row ≡ rings_after (open_edit t v i x) t.rings v) × (set t.valences v (valence_at t v + 1) ≡ valences_after (open_edit t v i x) t.valences v))
    unfolding open_edit refuse_if
    at_opened x h room row q =
        let l = ring_long in
        let w =
        row_written t v (opened (ring_of t v) i x) (valence_at t v + 1) (omega (arith, opened_length (ring_of t v) i x)) (omega arith) row
        (q ∙ ap (λ (r : List ℕ). padded (opened r i x)) front) in
        let e : (Ok tt) ≡ (open_edit t v i x).verdict = rw (lt-leb 32 (valence_at t v) room) in
        (e, edit_done t v (open_edit t v i x) e refl (opened (ring_of t v) i x) refl _ _ w.0 w.1)

    pub at_full : (x : ℕ) → 32 ≤ valence_at t v → (Err RingFull ≡ (open_edit t v i x).verdict) × ((t.rings ≡ rings_after (open_edit t v i x) t.rings v) × (t.valences ≡ valences_after (open_edit t v i x) t.valences v))
    unfolding open_edit refuse_if
    at_full x h = let e : Err RingFull ≡ (open_edit t v i x).verdict = rw (le-leb 32 (valence_at t v) h) in (e, edit_refused t v (open_edit t v i x) RingFull e)
