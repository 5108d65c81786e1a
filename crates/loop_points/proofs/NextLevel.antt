-- The next level behind this one: its rings, masks and numbers in order, and how long its rows are. Assumes nothing.
use Prim.Native.Nat.{ℕ, suc, ◌+◌, ◌*◌, ◌≤◌, ◌<◌}
use mathlib.Core.Path.{◌≡◌, refl, sym, ap, ◌∙◌}
use mathlib.Core.List.{List, [], ◌∷◌}
use mathlib.Core.Logic.{⊎_elim}
use native.Mathlib.Nat.{mul-one}
use native.Mathlib.Numerals.{add-one}
use native.Mathlib.Omega.{arith}
use lib.IntN.{ℤ}
use lib.ListN.{length}
use borrow.Author.Tests.{lt-ltb, le-ltb}
use Rattle.mesh.specs.Ring.{◌∈◌, next, prev}
use Rattle.mesh.specs.Mesh.{Mesh, Sound, edges, over, up}
use Rattle.mesh.specs.Numbering.{start}
use Rattle.mesh.proofs.Lists.{lt_split, climbs}
use Rattle.mesh.proofs.Edges as H
use Rattle.mesh.proofs.Edges.{pairs}
use Rattle.steps.specs.Mask.{by_mask}
use Rattle.steps.proofs.Refresh.{by_mask_same}
use Rattle.loop_step.specs.Refine.{mid, old_ring, new_ring, refine, level}
use Rattle.loop_step.specs.Loop.{vertex_mask, edge_mask, loop_mask, loop}
use Rattle.loop_step.proofs.Mids as E
use Rattle.loop_step.proofs.Refined.{refine_sound, old_ring_lem}
use Rattle.loop_step.proofs.Levels.{loop_grounded}
use Rattle.rings.specs.Table.{Lent, ring_of, rows, padded, valence_rows, ring_rows, point_rows}
use Rattle.rings.proofs.Tables.{length_gather, length_padded}
use Rattle.rings.proofs.Rows.{rows_ring}
use Rattle.loop_points.specs.Level.{start_of}

-- ---- rings and masks of the next level

module _ (M : Mesh) (S : Sound M) where
  -- no ring is too long for its row, also past the last vertex, where it is empty
  pub short_ring : (x : ℕ) → length ((refine M).ring x) ≤ 32
  unfolding refine
  short_ring x = ⊎_elim (λ l. ((refine_sound M S).proper x l.1).short) (λ l. rw l.0 (omega arith)) (lt_split x (M.count + edges M))

  pub old_ring_is : (p : ℕ) → p < M.count → (refine M).ring p ≡ old_ring M p
  unfolding old_ring
  old_ring_is p l = old_ring_lem M S p l

  pub old_mask : (p : ℕ) → p < M.count → loop_mask M p ≡ vertex_mask p (M.ring p)
  unfolding loop_mask
  old_mask p l = rw (lt-ltb p M.count l)

  module _ (p q : ℕ) (low : p < q) (l : p < M.count) (m : q ∈ M.ring p) where
    pub new_range : (M.count ≤ mid M p q) × (mid M p q < M.count + edges M)
    new_range = E.mid_range M S.proper S.mutual' p q l m

    pub new_ring_is : (refine M).ring (mid M p q) ≡ new_ring M p q
    unfolding refine
    new_ring_is =
        let e = E.ends_of M S.proper S.mutual' p q low l m in
        rw (lt-ltb (mid M p q) (M.count + edges M) new_range.1, le-ltb (mid M p q) M.count new_range.0, e.0, e.1)

    pub new_mask : loop_mask M (mid M p q) ≡ edge_mask p q (next (M.ring p) q) (prev (M.ring p) q)
    unfolding loop_mask
    new_mask =
        let e = E.ends_of M S.proper S.mutual' p q low l m in
        rw (le-ltb (mid M p q) M.count new_range.0, e.0, e.1)

  -- points of the next level see only the points of this one
  pub next_same : (x : ℕ) → x < M.count + edges M → (f g : ℕ → ℤ) → ((v : ℕ) → v < M.count → f v ≡ g v) → by_mask (loop_mask M x) f ≡ by_mask (loop_mask M x) g
  unfolding loop level refine
  next_same x h f g same = by_mask_same (loop M) (loop_grounded M S) 0 x h f g same

-- ---- numbers of edges

module _ (n : ℕ) (t : Lent) where
  pub start_none : start_of n t 0 ≡ 0
  unfolding start_of start
  start_none = refl

  pub start_more : (p : ℕ) → p < n → start_of n t (p + 1) ≡ start_of n t p + length (over p (ring_of t p))
  unfolding start_of start up
  start_more p l = rw (add-one p) (ap (λ (r : List ℕ). start (up (rows n t)) p + length (over p r)) (rows_ring n t p l))

  start_up : (p : ℕ) → start_of n t p ≤ start_of n t (suc p)
  unfolding start_of start
  start_up p = omega arith

  pub start_end : Sound (rows n t) → start_of n t n ≡ edges (rows n t)
  unfolding start_of pairs rows
  start_end S = sym (H.edges_pairs (rows n t) S.proper S.mutual')

  pub start_most : Sound (rows n t) → (p : ℕ) → p ≤ n → start_of n t p ≤ edges (rows n t)
  start_most S p l = rw (← start_end S) (climbs (start_of n t) start_up p n l)

-- ---- rows of the next level: how long they are

module _ (M : Mesh) (S : Sound M) (k : ℕ) where
  pub length_valences : length (valence_rows (refine M).ring k) ≡ k
  unfolding valence_rows
  length_valences = length_gather (λ v. length ((refine M).ring v) ∷ []) 1 (λ i. refl) k ∙ mul-one k

  pub wide_ring : (i : ℕ) → length (padded ((refine M).ring i)) ≡ 32
  wide_ring i = length_padded ((refine M).ring i) (short_ring M S i)

  pub length_rings : length (ring_rows (refine M).ring k) ≡ k * 32
  unfolding ring_rows
  length_rings = length_gather (λ v. padded ((refine M).ring v)) 32 wide_ring k

pub length_points : (f : ℕ → ℕ → ℤ) (k : ℕ) → length (point_rows f k) ≡ k * 3
unfolding point_rows
length_points f k = length_gather (λ v. f 0 v ∷ f 1 v ∷ f 2 v ∷ []) 3 (λ i. refl) k
