-- To be believed.
-- The rings of document 01's section "Refinement, one level": how new vertices are numbered, the ring of each vertex, and level after level.
-- Assumes nothing.
use Rattle.std.specs.Prelude.{cond, List, [], ◌∷◌, map, ℕ, zero, suc, ◌+◌, ◌-◌, min, max, ltb}
use Rattle.mesh.specs.Ring.{next, prev}
use Rattle.mesh.specs.Numbering.{number, row_of, entry_of}
use Rattle.mesh.specs.Mesh.{Mesh, mesh, edges, up}

-- m(u,v): the new vertex of edge u, v
unfoldable pub mid : Mesh → ℕ → ℕ → ℕ
mid M u v = M.count + number (up M) (min u v) (max u v)

-- the lesser end p of the edge whose new vertex is x
unfoldable pub low_end : Mesh → ℕ → ℕ
low_end M x = row_of (up M) M.count (x - M.count)

-- its greater end q
unfoldable pub high_end : Mesh → ℕ → ℕ
high_end M x = entry_of (up M) M.count M.count (x - M.count)

-- the ring of an old vertex v: for each neighbour, in the same place, the new vertex between
unfoldable pub old_ring : Mesh → ℕ → List ℕ
old_ring M v = map (mid M v) (M.ring v)

-- the ring of the new vertex of edge p, q, with a and b the vertices beside that edge
abbrev pub around : Mesh → ℕ → ℕ → ℕ → ℕ → List ℕ
around M p q a b = p ∷ mid M p b ∷ mid M q b ∷ q ∷ mid M q a ∷ mid M p a ∷ []

-- with a after q and b before q in the ring of p
unfoldable pub new_ring : Mesh → ℕ → ℕ → List ℕ
new_ring M p q = around M p q (next (M.ring p) q) (prev (M.ring p) q)

-- one level of refinement: V + E vertices, the old ones first
unfoldable pub refine : Mesh → Mesh
refine M = mesh (M.count + edges M) (λ x. cond (ltb x M.count) (old_ring M x) (new_ring M (low_end M x) (high_end M x)))

-- level 0 is the control mesh, and each level refines the one before
unfoldable pub level : Mesh → ℕ → Mesh
level M zero = M
level M (suc k) = refine (level M k)
