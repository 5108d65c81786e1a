-- The rows right behind a level, held against what refinement gives. Assumes nothing.
use Prim.Native.Nat.{ℕ, ◌+◌, ◌*◌, ◌≤◌, ◌<◌}
use mathlib.Core.Path.{◌≡◌, sym, ap, ◌∙◌}
use mathlib.Core.Bool.{Bool, not}
use mathlib.Core.List.{List}
use native.Mathlib.Omega.{arith}
use lib.IntN.{ℤ}
use lib.ListN.{length, get_or}
use lib.Dec.{eqb}
use Rattle.mesh.specs.Search.{some}
use Rattle.mesh.specs.Mesh.{Mesh, edges}
use Rattle.mesh.specs.Ring.{◌∈◌}
use Rattle.mesh.proofs.First.{Clear, first_same}
use Rattle.mesh.proofs.Rings.{get_or_in}
use Rattle.mesh.proofs.SoundMeshes as H
use Rattle.loop_step.specs.Refine.{mid, old_ring, new_ring, refine}
use Rattle.loop_step.proofs.Mids as E
use Rattle.loop_step.proofs.Refined as R
use Rattle.rings.specs.Table.{Lent, valence_at, ring_of, rows}
use Rattle.rings.specs.Accepts.{HasRow}
use Rattle.rings.proofs.Rows.{rows_ring, row_length, room_row}
use Rattle.loop_points.specs.Level.{Ready, HasOld}
use Rattle.loop_points.proofs.Mids.{ready_length, ready_entry}
use Rattle.loop_points.proofs.OldRings.{old_length, old_entry}
use Rattle.stack_strange.specs.Expected.{same_list, strange_next}
use Rattle.stack_strange.proofs.Strange.{as_wanted}
use Rattle.stack_strange.proofs.SameLists.{differ_some}

some_same : (p q : ℕ → Bool) (n : ℕ) → ((k : ℕ) → k < n → p k ≡ q k) → some p n ≡ some q n
unfolding some
some_same p q n h = rw (first_same p q n h)

module _ {n : ℕ} {t : Lent} (r : Ready n t) where
  abbrev M : Mesh
  M = rows n t

  -- a row of the next level is in the tables
  pub next_row : (x : ℕ) → x < n + edges M → valence_at t (n + x) ≤ 32 → HasRow t (n + x)
  next_row x l h = room_row r.room (omega arith) h

  -- ---- an old vertex

  module _ {p : ℕ} (h : p < n) where
    pub old_is : (refine M).ring p ≡ old_ring M p
    unfolding rows old_ring
    old_is = R.old_ring_lem M r.sound p h

    pub want_length : length ((refine M).ring p) ≡ valence_at t p
    want_length = ap length old_is ∙ old_length r h

    pub want_entry : (i : ℕ) → i < valence_at t p → get_or ((refine M).ring p) i 0 ≡ mid M p (get_or (ring_of t p) i 0)
    want_entry i l = ap (λ (table : List ℕ). get_or table i 0) old_is ∙ old_entry r h i l

    module _ (same : valence_at t (n + p) ≡ valence_at t p) where
      row_entry : (i : ℕ) → i < valence_at t p → get_or (ring_of t (n + p)) i 0 ≡ get_or t.rings ((n + p) * 32 + i) 0
      row_entry i l = sym (ready_entry r (n + p) i (omega arith))

      old_row_length : length (ring_of t (n + p)) ≡ valence_at t p
      old_row_length = let m = r.most p h in row_length t (n + p) (next_row p (omega arith) (omega arith)) ∙ same

      -- compared place by place
      pub old_differing : some (λ i. not (eqb (get_or t.rings ((n + p) * 32 + i) 0) (mid M p (get_or (ring_of t p) i 0)))) (valence_at t p) ≡ not (same_list (ring_of t (n + p)) ((refine M).ring p))
      old_differing =
          some_same _ _ (valence_at t p) (λ i l. rw (row_entry i l, want_entry i l)) ∙ differ_some (ring_of t (n + p)) ((refine M).ring p) old_row_length want_length

  -- where no old vertex below k is strange, these have their rings
  pub has_old : (ps : List ℤ) (k : ℕ) → k ≤ n → Clear (strange_next n t ps) k → HasOld n t k
  unfolding strange_next
  has_old ps k m all = record {
    place = λ u l i g.
        let h : u < n = omega arith in
        let w = as_wanted ((refine M).ring u) t ps (n + u) (all.below u l) in
        let e : valence_at t (n + u) ≡ valence_at t u = w.0 ∙ want_length h in
        sym (row_entry h e i g) ∙ ap (λ (table : List ℕ). get_or table i 0) w.1.0 ∙ want_entry h i g;
  }

  -- ---- the new vertex x of the edge from p to its neighbour at place i

  module _ {p i x : ℕ} (h : p < n) (l : i < valence_at t p) (o : p < get_or (ring_of t p) i 0) (e : x ≡ mid M p (get_or (ring_of t p) i 0)) where
    abbrev q : ℕ
    q = get_or (ring_of t p) i 0

    edge_there : q ∈ M.ring p
    edge_there = rw (rows_ring n t p h) (get_or_in (ring_of t p) i 0 (let k = ready_length r h in omega arith))

    pub new_below : x < n + edges M
    unfolding rows
    new_below = let m = E.mid_range M r.sound.proper r.sound.mutual' p q h edge_there in omega arith

    pub new_is : (refine M).ring x ≡ new_ring M p q
    unfolding rows new_ring
    new_is = ap (refine M).ring e ∙ R.new_ring_lem M r.sound p q o h edge_there ∙ rw (H.prev_next M r.sound p q h edge_there)

    pub new_length : length ((refine M).ring x) ≡ 6
    unfolding new_ring
    new_length = ap length new_is
