-- The rings of a refined mesh place by place, as a sweep over the old rows can write them (document 01, "Refinement, one level"):
-- numbers run on from row to row; an old vertex takes the number of a lesser neighbour's edge from that neighbour's new row;
-- and a new vertex takes the four new vertices of its ring from the new rows of the ends of its edge.
-- Assumes nothing.
use mathlib.Core.Path.{◌≡◌, sym, ap, ◌∙◌}
use mathlib.Core.List.{[], ◌∷◌}
use Prim.Native.Nat.{ℕ, suc, ◌+◌, ◌<◌}
use native.Mathlib.Nat.{min-eq_left, max-eq_right}
use native.Mathlib.Omega.{arith}
use lib.ListN.{length, get_or}
use Rattle.mesh.specs.Ring.{◌∈◌, place, place_after, place_before, next, prev}
use Rattle.mesh.specs.Mesh.{Mesh, Sound, edges, up}
use Rattle.mesh.specs.Numbering.{below, start, number}
use Rattle.mesh.proofs.Numbers.{start_zero, start_suc}
use Rattle.mesh.proofs.Rings.{place_lt, after_lt, before_lt, next_at, prev_at, get_d_map}
use Rattle.mesh.proofs.Edges as E
use Rattle.mesh.proofs.SoundMeshes as H
use Rattle.loop_step.specs.Refine.{mid, refine}
use Rattle.loop_step.proofs.Refined as R

-- ---- numbers, row after row

module _ (M : Mesh) where
  pub first_start : start (up M) 0 ≡ 0
  first_start = start_zero (up M)

  pub next_start : (p : ℕ) → start (up M) (suc p) ≡ start (up M) p + length (up M p)
  next_start = start_suc (up M)

  -- the number of an edge p < q: after those of the rows before p, and of the lesser q of row p
  pub edge_number : (p q : ℕ) → p < q → mid M p q ≡ M.count + (start (up M) p + below q (up M p))
  unfolding mid number
  edge_number p q h = rw (min-eq_left {n = p} {m = q} (omega arith), max-eq_right {n = p} {m = q} (omega arith))

module _ (M : Mesh) (S : Sound M) where
  -- the rows end at E
  pub last_start : start (up M) M.count ≡ edges M
  unfolding E.pairs
  last_start = sym (E.edges_pairs M S.proper S.mutual')

  -- ---- an old vertex

  pub old_place : (v i : ℕ) → v < M.count → i < length (M.ring v) → get_or ((refine M).ring v) i 0 ≡ mid M v (get_or (M.ring v) i 0)
  old_place v i h k = ap (λ l. get_or l i 0) (R.old_ring_lem M S v h) ∙ get_d_map (mid M v) (M.ring v) i 0 0 k

  -- the new row of v beside the place of u: the new vertices of v and u's two neighbours there
  after_place : (v u : ℕ) → v < M.count → u ∈ M.ring v → get_or ((refine M).ring v) (place_after (length (M.ring v)) (place u (M.ring v))) 0 ≡ mid M v (next (M.ring v) u)
  after_place v u h m = old_place v _ h (after_lt (length (M.ring v)) (place u (M.ring v)) (place_lt u (M.ring v) m)) ∙ ap (mid M v) (sym (next_at (M.ring v) u))

  before_place : (v u : ℕ) → v < M.count → u ∈ M.ring v → get_or ((refine M).ring v) (place_before (length (M.ring v)) (place u (M.ring v))) 0 ≡ mid M v (prev (M.ring v) u)
  before_place v u h m = old_place v _ h (before_lt (length (M.ring v)) (place u (M.ring v)) (place_lt u (M.ring v) m)) ∙ ap (mid M v) (sym (prev_at (M.ring v) u))

  -- ---- a new vertex

  pub new_row : (p q : ℕ) → p < q → p < M.count → q ∈ M.ring p
      → let i = place q (M.ring p) in
      let j = place p (M.ring q) in
      let n = length (M.ring p) in
      let k = length (M.ring q) in
      (refine M).ring (mid M p q)
      ≡ p
      ∷ get_or ((refine M).ring p) (place_before n i) 0
      ∷ get_or ((refine M).ring q) (place_after k j) 0
      ∷ q
      ∷ get_or ((refine M).ring q) (place_before k j) 0
      ∷ get_or ((refine M).ring p) (place_after n i) 0
      ∷ []
  new_row p q l h m =
      let g : q < M.count = (S.proper p h).known q m in
      let m' : p ∈ M.ring q = S.mutual' p q h m in
      R.new_ring_lem M S p q l h m
      ∙ sym
      (rw (
        before_place p q h m,
        after_place q p g m',
        before_place q p g m',
        after_place p q h m,
        H.prev_next M S p q h m,
        H.prev_next M S q p g m',
      ))
