-- How m(u,v) numbers the edges of a mesh whose rings are proper and mutual: each once, in order, and back.
-- Assumes nothing.
use mathlib.Core.Path.{◌≡◌}
use mathlib.Core.Logic.{⊎_elim, ◌≢◌}
use Prim.Native.Nat.{ℕ, ◌+◌, ◌-◌, ◌≤◌, ◌<◌, min, max}
use native.Mathlib.Nat.{min_comm, max_comm, min-eq_left, min-eq_right, max-eq_left, max-eq_right}
use native.Mathlib.Omega.{arith}
use Rattle.mesh.specs.Ring.{◌∈◌, Distinct}
use Rattle.mesh.specs.Mesh.{Mesh, Proper, edges, up}
use Rattle.mesh.specs.Numbering.{row_of, entry_of}
use Rattle.mesh.proofs.Lists.{lt_split}
use Rattle.mesh.proofs.Numbers.{number_range, number_inj, number_onto, number_later_row, number_later_entry}
use Rattle.mesh.proofs.Edges.{pairs}
use Rattle.mesh.proofs.Edges as E
use Rattle.loop_step.specs.Refine.{mid, low_end, high_end}

-- the rings are proper and mutual
module _ (M : Mesh) (proper : (v : ℕ) → v < M.count → Proper M v) (mut : (v u : ℕ) → v < M.count → u ∈ M.ring v → v ∈ M.ring u) where
  ring_lt : (v u : ℕ) → v < M.count → u ∈ M.ring v → u < M.count
  ring_lt = E.ring_lt M proper mut

  ring_ne : (v u : ℕ) → v < M.count → u ∈ M.ring v → u ≢ v
  ring_ne = E.ring_ne M proper mut

  up_ring : (p q : ℕ) → q ∈ up M p → (p < q) × (q ∈ M.ring p)
  up_ring = E.up_ring M proper mut

  ring_up : (p q : ℕ) → p < q → q ∈ M.ring p → q ∈ up M p
  ring_up = E.ring_up M proper mut

  up_lt : (p : ℕ) → p < M.count → (q : ℕ) → q ∈ up M p → q < M.count
  up_lt = E.up_lt M proper mut

  up_once : (p : ℕ) → p < M.count → Distinct (up M p)
  up_once = E.up_once M proper mut

  edges_pairs : edges M ≡ pairs M
  edges_pairs = E.edges_pairs M proper mut

  -- the two ends of an edge in order
  in_order : (v u : ℕ) → v < M.count → u ∈ M.ring v → (min v u < M.count) × (max v u ∈ up M (min v u))
  in_order v u h m =
      ⊎_elim
      (λ g. rw (min-eq_left {n = v} {m = u} (omega arith), max-eq_right {n = v} {m = u} (omega arith)) (h, ring_up v u g.1 m))
      (λ g.
      rw (min-eq_right {n = u} {m = v} g.1, max-eq_left {n = v} {m = u} g.1)
      (ring_lt v u h m, ring_up u v (omega (arith, ring_ne v u h m)) (mut v u h m)))
      (lt_split v u)

  pub mid_sym : (u v : ℕ) → mid M u v ≡ mid M v u
  unfolding mid
  mid_sym u v = rw (min_comm u v, max_comm u v)

  mid_range_pairs : (v u : ℕ) → v < M.count → u ∈ M.ring v → (M.count ≤ mid M v u) × (mid M v u < M.count + pairs M)
  unfolding mid pairs
  mid_range_pairs v u h m =
      let o = in_order v u h m in
      (omega arith, omega (arith, number_range (up M) M.count M.count up_lt up_once (min v u) (max v u) o.0 o.1))

  -- one new vertex, one edge
  pub mid_inj : (v u v' u' : ℕ) → v < M.count → u ∈ M.ring v → v' < M.count → u' ∈ M.ring v' → mid M v u ≡ mid M v' u' → (min v u ≡ min v' u') × (max v u ≡ max v' u')
  unfolding mid
  mid_inj v u v' u' h m h' m' e =
      let o = in_order v u h m in
      let o' = in_order v' u' h' m' in
      number_inj (up M) M.count M.count up_lt up_once (min v u) (max v u) (min v' u') (max v' u') o.0 o.1 o'.0 o'.1 (omega arith)

  -- by the lesser end, then by the greater, ascending
  pub mid_later_p : (p q p' q' : ℕ) → p < M.count → q ∈ M.ring p → p < q → p < p' → p' < q' → mid M p q < mid M p' q'
  unfolding mid
  mid_later_p p q p' q' h m l k l' =
      rw (min-eq_left {n = p} {m = q} (omega arith), max-eq_right {n = p} {m = q} (omega arith), min-eq_left {n = p'} {m = q'} (omega arith), max-eq_right {n = p'} {m = q'} (omega arith))
      (omega (arith, number_later_row (up M) M.count M.count up_lt up_once p q p' q' h (ring_up p q l m) k))

  pub mid_later_q : (p q q' : ℕ) → p < M.count → q ∈ M.ring p → p < q → q < q' → mid M p q < mid M p q'
  unfolding mid
  mid_later_q p q q' h m l k =
      rw (min-eq_left {n = p} {m = q} (omega arith), max-eq_right {n = p} {m = q} (omega arith), min-eq_left {n = p} {m = q'} (omega arith), max-eq_right {n = p} {m = q'} (omega arith))
      (omega (arith, number_later_entry (up M) M.count M.count up_lt up_once p q q' (ring_up p q l m) k))

  -- each new vertex has its edge
  ends_pairs : (x : ℕ) → M.count ≤ x → x < M.count + pairs M
      → (low_end M x < high_end M x) × (high_end M x < M.count) × (high_end M x ∈ M.ring (low_end M x)) × (mid M (low_end M x) (high_end M x) ≡ x)
  unfolding mid pairs low_end high_end
  ends_pairs x h g =
      let r = number_onto (up M) M.count M.count up_lt up_once (x - M.count) (omega arith) in
      let p : ℕ = row_of (up M) M.count (x - M.count) in
      let q : ℕ = entry_of (up M) M.count M.count (x - M.count) in
      let s = up_ring p q r.1 in (
        s.0,
        up_lt p r.0 q r.1,
        s.1,
        rw (min-eq_left {n = p} {m = q} (omega arith), max-eq_right {n = p} {m = q} (omega arith)) (omega arith),
      )

  -- and only that one
  pub ends_of : (p q : ℕ) → p < q → p < M.count → q ∈ M.ring p → (low_end M (mid M p q) ≡ p) × (high_end M (mid M p q) ≡ q)
  ends_of p q l h m =
      let r = mid_range_pairs p q h m in
      let e = ends_pairs (mid M p q) r.0 r.1 in
      let i = mid_inj (low_end M (mid M p q)) (high_end M (mid M p q)) p q (omega arith) e.2 h m e.3 in
      omega arith

  pub mid_range : (v u : ℕ) → v < M.count → u ∈ M.ring v → (M.count ≤ mid M v u) × (mid M v u < M.count + edges M)
  mid_range v u h m = rw edges_pairs (mid_range_pairs v u h m)

  pub ends : (x : ℕ) → M.count ≤ x → x < M.count + edges M
      → (low_end M x < high_end M x) × (high_end M x < M.count) × (high_end M x ∈ M.ring (low_end M x)) × (mid M (low_end M x) (high_end M x) ≡ x)
  ends x h g = ends_pairs x h (rw edges_pairs at g)
