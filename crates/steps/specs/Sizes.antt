-- To be believed.
-- The sizes of a level: V, E and F. A step says how they grow.
-- Assumes nothing.
use Rattle.std.specs.Prelude.{ℕ, ◌*◌, ◌/◌}
use Rattle.mesh.specs.Mesh.{Mesh, edges, faces}

-- how many vertices, edges and faces
pub record Sizes : Type 0 where
  pub vertices : ℕ
  pub edges : ℕ
  pub faces : ℕ

-- those of the mesh M of n vertices
abbrev pub sizes_of : ℕ → Mesh → Sizes
sizes_of n M = record { vertices = n; edges = edges M; faces = faces M }

-- those of a closed mesh of v vertices and e edges: each edge has two faces, and each face three edges
abbrev pub closed_sizes : ℕ → ℕ → Sizes
closed_sizes v e = record { vertices = v; edges = e; faces = 2 * e / 3 }
