-- To be believed.
-- Meshes as rings, and the rules of document 01's section "Ring rules": when a ring is proper, when a mesh is sound, and its counts. Then its edges p, q with p < q.
-- Assumes nothing.
use Rattle.std.specs.Prelude.{cond, List, [], ◌∷◌, ℕ, ◌+◌, ◌*◌, ◌/◌, ◌≤◌, ◌<◌, ltb, ℤ, length}
use Rattle.std.proofs.Math.IntN.{sub_ℕ}
use Rattle.mesh.specs.Limits.{least_valence, most_valence}
use Rattle.mesh.specs.Search.{sum}
use Rattle.mesh.specs.Ring.{◌∈◌, Distinct, next, Follows}

-- V vertices, and the ring of each
pub record Mesh : Type 0 where
  pub count : ℕ
  pub ring : ℕ → List ℕ

-- the mesh of n vertices with these rings; past the last vertex every ring is empty, so that meshes with the same rings are equal
abbrev pub mesh : ℕ → (ℕ → List ℕ) → Mesh
mesh n rings = record { count = n; ring = λ v. cond (ltb v n) (rings v) [] }

-- the ring of v is proper: not too long, numbers of vertices, none of them v, none twice
pub record Proper (M : Mesh) (v : ℕ) : Type 0 where
  pub short : length (M.ring v) ≤ most_valence
  pub known : (u : ℕ) → u ∈ M.ring v → u < M.count
  pub other : v ∈ M.ring v → ⊥
  pub distinct : Distinct (M.ring v)

-- the mesh is sound: proper rings of 3 or more; neighbours both ways; and each two neighbours in a row make a triangle with v
pub record Sound (M : Mesh) : Type 0 where
  pub proper : (v : ℕ) → v < M.count → Proper M v
  pub three : (v : ℕ) → v < M.count → least_valence ≤ length (M.ring v)
  pub mutual' : (v u : ℕ) → v < M.count → u ∈ M.ring v → v ∈ M.ring u
  pub face : (v u : ℕ) → v < M.count → u ∈ M.ring v → let w = next (M.ring v) u in Follows (M.ring w) v u × Follows (M.ring u) w v

-- the sum of valences
unfoldable pub valences : Mesh → ℕ
valences M = sum (λ v. length (M.ring v)) M.count

-- E, half of that
unfoldable pub edges : Mesh → ℕ
edges M = valences M / 2

-- F, two thirds of E
unfoldable pub faces : Mesh → ℕ
faces M = 2 * edges M / 3

-- V - E + F
unfoldable pub characteristic : Mesh → ℤ
characteristic M = sub_ℕ (M.count + faces M) (edges M)

-- the entries greater than p
abbrev pub over : ℕ → List ℕ → List ℕ
over p [] = []
over p (a ∷ l) = cond (ltb p a) (a ∷ over p l) (over p l)

-- the q of the edges p < q
unfoldable pub up : Mesh → ℕ → List ℕ
up M p = over p (M.ring p)
