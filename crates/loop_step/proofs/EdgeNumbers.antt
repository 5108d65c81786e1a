-- How refinement numbers the edges of a sound mesh (document 01, "Refinement, one level"): m(u,v) takes each number from V to V + E - 1 once,
-- by the lesser end and then by the greater, ascending; low_end and high_end lead back from a number to its edge.
-- Assumes nothing.
use mathlib.Core.Path.{◌≡◌}
use Prim.Native.Nat.{ℕ, ◌+◌, ◌≤◌, ◌<◌, min, max}
use native.Mathlib.Omega.{arith}
use Rattle.mesh.specs.Ring.{◌∈◌}
use Rattle.mesh.specs.Mesh.{Mesh, Sound, edges}
use Rattle.loop_step.specs.Refine.{mid, low_end, high_end}
use Rattle.loop_step.proofs.Mids as E

module _ (M : Mesh) (S : Sound M) where
  -- an edge has one number, whichever end is named first
  pub mid_symmetric : (u v : ℕ) → mid M u v ≡ mid M v u
  mid_symmetric = E.mid_sym M S.proper S.mutual'

  -- the numbers of edges start at V and end before V + E
  pub mid_in_range : (v u : ℕ) → v < M.count → u ∈ M.ring v → (M.count ≤ mid M v u) × (mid M v u < M.count + edges M)
  mid_in_range = E.mid_range M S.proper S.mutual'

  -- two edges with one number have the same ends
  pub mid_injective : (v u v' u' : ℕ) → v < M.count → u ∈ M.ring v → v' < M.count → u' ∈ M.ring v' → mid M v u ≡ mid M v' u'
      → (min v u ≡ min v' u') × (max v u ≡ max v' u')
  mid_injective = E.mid_inj M S.proper S.mutual'

  -- each number of that range belongs to an edge p < q: p is low_end, q is high_end
  pub ends_are_an_edge : (x : ℕ) → M.count ≤ x → x < M.count + edges M → (low_end M x < high_end M x) × (high_end M x < M.count) × (high_end M x ∈ M.ring (low_end M x))
  ends_are_an_edge x h g = let e = E.ends M S.proper S.mutual' x h g in (e.0, e.1, e.2)

  pub mid_of_ends : (x : ℕ) → M.count ≤ x → x < M.count + edges M → mid M (low_end M x) (high_end M x) ≡ x
  mid_of_ends x h g = (E.ends M S.proper S.mutual' x h g).3

  -- and from an edge's number back to its ends
  pub ends_of_mid : (v u : ℕ) → v < M.count → u ∈ M.ring v → (low_end M (mid M v u) ≡ min v u) × (high_end M (mid M v u) ≡ max v u)
  ends_of_mid v u h m =
      let r = mid_in_range v u h m in
      let e = ends_are_an_edge (mid M v u) r.0 r.1 in
      let i = mid_injective (low_end M (mid M v u)) (high_end M (mid M v u)) v u (omega arith) e.2 h m (mid_of_ends (mid M v u) r.0 r.1) in
      omega arith

  -- a lesser p comes first, whatever the greater ends
  pub mid_by_p : (p q p' q' : ℕ) → p < M.count → q ∈ M.ring p → p < q → p < p' → p' < q' → mid M p q < mid M p' q'
  mid_by_p = E.mid_later_p M S.proper S.mutual'

  -- and with the same p the lesser q
  pub mid_by_q : (p q q' : ℕ) → p < M.count → q ∈ M.ring p → p < q → q < q' → mid M p q < mid M p q'
  mid_by_q = E.mid_later_q M S.proper S.mutual'
