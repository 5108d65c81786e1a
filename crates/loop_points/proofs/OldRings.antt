-- The ring of an old vertex on the next level, written place by place while the rows in front of it stay as they are. Assumes nothing.
use Prim.Native.Nat.{ℕ, zero, suc, ◌+◌, ◌-◌, ◌*◌, ◌≤◌, ◌<◌}
use mathlib.Core.Path.{◌≡◌, refl, sym, ap, ◌∙◌}
use mathlib.Core.List.{List, [], ◌∷◌, map}
use native.Mathlib.Nat.{not-suc-le-zero}
use native.Mathlib.Omega.{arith}
use lib.ListN.{length, get_or, take, set, replicate, length-map}
use lib.Seq.{take_all, length-take-le}
use Rattle.mesh.specs.Limits.{null_vertex}
use Rattle.mesh.specs.Mesh.{Mesh}
use Rattle.loop_step.specs.Refine.{mid, old_ring}
use Rattle.rings.specs.Table.{Lent, lent, valence_at, put, ring_of, rows, padded}
use Rattle.rings.proofs.Rows.{rows_ring}
use Rattle.rings.proofs.Blocks.{row_more, row_padded}
use Rattle.loop_points.specs.Level.{Ready, HasOld, start_of}
use Rattle.loop_points.proofs.Kept.{behind_ready, behind_start, behind_mid, behind_old}
use Rattle.loop_points.proofs.Mids.{ready_length}

get_d_map : (f : ℕ → ℕ) (l : List ℕ) (i : ℕ) → i < length l → get_or (map f l) i 0 ≡ f (get_or l i 0)
get_d_map f [] i h = absurd (not-suc-le-zero h)
get_d_map f (a ∷ l) zero h = refl
get_d_map f (a ∷ l) (suc i) h = get_d_map f l i (omega arith)

module _ {n : ℕ} {t : Lent} (r : Ready n t) {p : ℕ} (h : p < n) where
  abbrev M : Mesh
  M = rows n t

  abbrev at : ℕ
  at = (n + p) * 32

  pub old_length : length (old_ring M p) ≡ valence_at t p
  unfolding old_ring
  old_length = length-map (M.ring p) (mid M p) ∙ ap length (rows_ring n t p h) ∙ ready_length r h

  pub old_entry : (k : ℕ) → k < valence_at t p → get_or (old_ring M p) k 0 ≡ mid M p (get_or (ring_of t p) k 0)
  unfolding old_ring
  old_entry k l = rw (rows_ring n t p h) (get_d_map (mid M p) (ring_of t p) k (let e = ready_length r h in omega arith))

  -- the row has its place behind the first n rows
  row_room : at + 32 ≤ length t.rings
  row_room = let a = r.room.rings in omega arith

  -- k places written
  module _ {k : ℕ} (l : k ≤ valence_at t p) {now : List ℕ} (q : now ≡ put t.rings at (take k (old_ring M p))) where
    part_fits : at + length (take k (old_ring M p)) ≤ length t.rings
    part_fits = let e = old_length in let m = r.most p h in let a = row_room in let w = length-take-le k (old_ring M p) (omega arith) in omega arith

    behind : n * 32 ≤ at
    behind = omega arith

    -- what the next place asks
    pub old_asks : k < valence_at t p → (s : ℕ) → s ≡ start_of n t p → HasOld n t p
        → Ready n (lent t.valences now) × ((p < n) × ((k < valence_at t p) × ((s ≡ start_of n (lent t.valences now) p) × HasOld n (lent t.valences now) p)))
    old_asks g s e o =
        let b : List ℕ = take k (old_ring M p) in
        rw q (behind_ready n t r at b part_fits behind, (h, (g, (e ∙ sym (behind_start n t r at b part_fits behind p), behind_old n t r at b part_fits behind p (omega arith) (omega arith) o))))

    pub old_step : k < valence_at t p → (v : ℕ) → v ≡ mid (rows n (lent t.valences now)) p (get_or (ring_of (lent t.valences now) p) k 0) → set now (at + k) v ≡ put t.rings at (take (k + 1) (old_ring M p))
    old_step g v e =
        let b : List ℕ = take k (old_ring M p) in
        let c = old_length in
        let m = r.most p h in
        let a = row_room in
        let f : v ≡ get_or (old_ring M p) k 0 = (rw q at e) ∙ behind_mid n t r at b part_fits behind p k h ∙ sym (old_entry k g) in
        row_more t.rings at (old_ring M p) k q (omega arith) (omega arith) v f

    pub old_end : valence_at t p ≤ k → {last : List ℕ} → last ≡ put now (at + valence_at t p) (replicate (32 - valence_at t p) null_vertex) → last ≡ put t.rings at (padded (old_ring M p))
    old_end g {last} e =
        let c : length (old_ring M p) ≡ valence_at t p = old_length in
        let m = r.most p h in
        let w : take k (old_ring M p) ≡ old_ring M p = take_all k (old_ring M p) (omega arith) in
        (rw (q, w, ← c) at e) ∙ row_padded t.rings at (old_ring M p) row_room (omega arith)
