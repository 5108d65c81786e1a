-- To be believed.
-- The positions of document 01's section "Refinement, one level", as masks: one for old vertices, with a weight of its own at valence 3, and one for new ones.
-- Assumes nothing.
use Rattle.std.specs.Prelude.{cond, List, [], ◌∷◌, map, ℕ, ◌+◌, ◌*◌, ltb, eqb, length}
use Rattle.mesh.specs.Ring.{next, prev}
use Rattle.mesh.specs.Mesh.{Mesh}
use Rattle.steps.specs.Mask.{term, Mask, Steps}
use Rattle.steps.specs.Sizes.{Sizes}
use Rattle.loop_step.specs.Refine.{low_end, high_end, level}

-- an old vertex v: 7 parts and 3 of each neighbour in 16 at valence 3, else 5n parts and 3 of each of the n neighbours in 8n
abbrev pub vertex_mask : ℕ → List ℕ → Mask
vertex_mask v ring =
    let n : ℕ = length ring in
    record {
      terms = term (cond (eqb n 3) 7 (5 * n)) v ∷ map (term 3) ring;
      divisor = cond (eqb n 3) 16 (8 * n);
    }

-- the new vertex of edge p, q: 3 parts of each end and 1 of each vertex beside the edge, in 8
abbrev pub edge_mask : ℕ → ℕ → ℕ → ℕ → Mask
edge_mask p q a b = record { terms = term 3 p ∷ term 3 q ∷ term 1 a ∷ term 1 b ∷ []; divisor = 8 }

-- the mask of vertex x of the level above M
unfoldable pub loop_mask : Mesh → ℕ → Mask
loop_mask M x =
    let p : ℕ = low_end M x in
    let q : ℕ = high_end M x in
    cond (ltb x M.count) (vertex_mask x (M.ring x)) (edge_mask p q (next (M.ring p) q) (prev (M.ring p) q))

-- Loop's refinement of M, level after level
unfoldable pub loop : Mesh → Steps
loop M = record { size = λ k. (level M k).count; mask = λ k x. loop_mask (level M k) x }

-- how sizes grow: a vertex for each edge; two edges for each edge and three within each face; four faces for each face
abbrev pub loop_sizes : Sizes → Sizes
loop_sizes s = record { vertices = s.vertices + s.edges; edges = 2 * s.edges + 3 * s.faces; faces = 4 * s.faces }
