-- To be believed.
-- The lent tables of section "Tables and numbers" and the mesh that is read out of them: v has its valence at v, its ring from 32 v on, its point from 3 v on.
-- A table after a call is said by `put` and `gather` alone: written here, everything else as it was.
-- Assumes nothing.
use Rattle.std.specs.Prelude.{List, [], ◌∷◌, ◌++◌, ℕ, zero, suc, ◌+◌, ◌-◌, ◌*◌, ℤ, pos, length, get_or, take, drop, replicate}
use Rattle.mesh.specs.Limits.{most_valence, null_vertex}
use Rattle.mesh.specs.Mesh.{Mesh, mesh}
use Rattle.units.specs.declared.Point.{Point}

-- the lists f 0, .., f (n - 1), one after the other
abbrev pub gather {ℓ} : {A : Type ℓ} → (ℕ → List A) → ℕ → List A
gather f zero = []
gather f (suc n) = gather f n ++ f n

-- the table l with the block b written from place `at` on
unfoldable pub put {ℓ} : {A : Type ℓ} → List A → ℕ → List A → List A
put l at b = take at l ++ (b ++ drop (at + length b) l)

-- the two tables that hold a mesh's rings
pub record Lent : Type 0 where
  pub valences : List ℕ
  pub rings : List ℕ

-- the tables, from the two lists that a caller lends
abbrev pub lent : List ℕ → List ℕ → Lent
lent vs rs = record { valences = vs; rings = rs }

-- v's valence, as its table has it
abbrev pub valence_at : Lent → ℕ → ℕ
valence_at t v = get_or t.valences v 0

-- the used places of v's row
unfoldable pub ring_of : Lent → ℕ → List ℕ
ring_of t v = take (valence_at t v) (drop (v * most_valence) t.rings)

-- the mesh of the first n rows
unfoldable pub rows : ℕ → Lent → Mesh
rows n t = mesh n (ring_of t)

-- a row as it is written: the ring, and the null vertex in the unused places
unfoldable pub padded : List ℕ → List ℕ
padded l = l ++ replicate (most_valence - length l) null_vertex

-- the valences of the rings f 0, .., f (n - 1)
unfoldable pub valence_rows : (ℕ → List ℕ) → ℕ → List ℕ
valence_rows f n = gather (λ v. length (f v) ∷ []) n

-- their rows in the table of rings
unfoldable pub ring_rows : (ℕ → List ℕ) → ℕ → List ℕ
ring_rows f n = gather (λ v. padded (f v)) n

-- one coordinate of v: axis 0, 1 or 2
unfoldable pub coordinate_at : List ℤ → ℕ → ℕ → ℤ
coordinate_at ps axis v = get_or ps (v * 3 + axis) (pos 0)

-- the point of v
unfoldable pub point_at : List ℤ → ℕ → Point
point_at ps v = record { x = coordinate_at ps 0 v; y = coordinate_at ps 1 v; z = coordinate_at ps 2 v }

-- the points of vertices 0 to n - 1, given by their coordinates
unfoldable pub point_rows : (ℕ → ℕ → ℤ) → ℕ → List ℤ
point_rows f n = gather (λ v. f 0 v ∷ f 1 v ∷ f 2 v ∷ []) n
