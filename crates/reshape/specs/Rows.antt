-- To be believed.
-- A mesh of which some rings are written anew. An edit is a list of such rows, all worked out from the old rings.
-- Assumes nothing.
use Rattle.std.specs.Prelude.{cond, List, [], ◌∷◌, ℕ, eqb}
use Rattle.mesh.specs.Mesh.{Mesh, mesh}

-- a vertex, and the ring that it gets
pub record Row : Type 0 where
  pub vertex : ℕ
  pub ring : List ℕ

-- v with the ring l
abbrev pub row : ℕ → List ℕ → Row
row v l = record { vertex = v; ring = l }

-- the ring of v: as a row for v says, or else the one it had
abbrev pub ring_by : List Row → (ℕ → List ℕ) → ℕ → List ℕ
ring_by [] old v = old v
ring_by (r ∷ rs) old v = cond (eqb v r.vertex) r.ring (ring_by rs old v)

-- M with these rows, and n vertices
unfoldable pub rewritten : Mesh → ℕ → List Row → Mesh
rewritten M n rs = mesh n (ring_by rs M.ring)
