-- For inside.
-- Which points of the next level depend on a vertex under Loop's masks (document 01, "Moves"), listed from the vertex's own ring.
-- Assumes nothing.
use Rattle.std.specs.Prelude.{List, ◌∷◌, ◌++◌, map, ℕ}
use Rattle.mesh.specs.Ring.{next}
use Rattle.mesh.specs.Mesh.{Mesh}
use Rattle.loop_step.specs.Refine.{mid, old_ring}

-- the new vertex of the edge opposite t in the face of t, its neighbour u and the one after u in t's ring
unfoldable pub opposite : Mesh → ℕ → ℕ → ℕ
opposite M t u = mid M u (next (M.ring t) u)

-- the vertices of the level above M that depend on t: t and its neighbours, the new vertices of the edges at t, and those of the edges opposite t
unfoldable pub dependents : Mesh → ℕ → List ℕ
dependents M t = t ∷ (M.ring t ++ (old_ring M t ++ map (opposite M t) (M.ring t)))
