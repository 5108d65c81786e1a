-- What the walk over the old rows of the next level asks for, row by row, and what it gains. Assumes nothing.
use Prim.Native.Nat.{ℕ, ◌+◌, ◌-◌, ◌*◌, ◌≤◌, ◌<◌}
use mathlib.Core.Path.{◌≡◌, sym, ◌∙◌}
use mathlib.Core.List.{List}
use native.Mathlib.Omega.{arith}
use lib.ListN.{length, take, drop, length-drop}
use Rattle.mesh.specs.Limits.{most_vertices}
use Rattle.mesh.specs.Mesh.{Mesh, edges}
use Rattle.rings.specs.Table.{Lent, lent, valence_at, ring_of, rows}
use Rattle.rings.specs.Accepts.{HasRow}
use Rattle.rings.proofs.Rows.{rows_ring}
use Rattle.loop_points.specs.Level.{Ready}
use Rattle.loop_points.proofs.Mids.{ready_length}
use Rattle.rings.proofs.LevelRows.{part_is}
use Rattle.stack_agreement.specs.Agreement.{RowAgrees}

module _ {n : ℕ} {t : Lent} (r : Ready n t) where
  abbrev M : Mesh
  M = rows n t

  -- the rows of the next level
  abbrev above : List ℕ
  above = drop (n * 32) t.rings

  rings_within : n * 32 ≤ length t.rings
  rings_within = let b = r.room.rings in omega arith

  pub above_row : {p : ℕ} → p < n → HasRow (lent t.valences (take (length t.rings - n * 32) (drop (n * 32) t.rings))) p
  above_row {p} l =
      let m = r.most p l in
      let a = r.room.valences in
      let b = r.room.rings in
      rw (part_is t.rings (n * 32) rings_within) (record { valence = omega arith; row = omega (arith, length-drop (n * 32) t.rings) })

  three_places : {p : ℕ} → p < n → 3 ≤ valence_at t p
  unfolding rows
  three_places {p} h = rw (rows_ring n t p h, ready_length r h) at (r.sound.three p h)

  pub row_asks : {p : ℕ} → p < n → {end : ℕ} → end ≡ n + edges M → (row next : List ℕ) → length row ≡ valence_at t p → length next ≡ valence_at t p
      → (end ≤ most_vertices) × ((end * 32 ≤ length (take (length t.rings - n * 32) (drop (n * 32) t.rings))) × ((0 < length row) × (length next ≡ length row)))
  row_asks h e row next a b =
      let z = three_places h in
      let f = r.fits in
      let c = r.room.rings in
      rw (part_is t.rings (n * 32) rings_within) (omega arith, (omega (arith, length-drop (n * 32) t.rings), (omega arith, b ∙ sym a)))

  pub row_agreed : {end p : ℕ} {row next : List ℕ} → row ≡ ring_of t p → next ≡ ring_of (lent t.valences (take (length t.rings - n * 32) (drop (n * 32) t.rings))) p
      → RowAgrees row next (take (length t.rings - n * 32) (drop (n * 32) t.rings)) n end p → RowAgrees (ring_of t p) (ring_of (lent t.valences above) p) above n end p
  row_agreed a b h = rw (part_is t.rings (n * 32) rings_within) at (rw (a, b) at h)
