-- For inside.
-- A table that comes nearer, place by place and in any order, to the table with the whole next level: what is written is what belongs there, so what is right stays right.
-- Assumes nothing.
use Rattle.std.specs.Prelude.{◌≡◌, List, ◌⊎◌, ℕ, ◌+◌, ◌*◌, ◌≤◌, ◌<◌, ℤ, pos, length, get_or}
use Rattle.mesh.specs.Limits.{most_valence}
use Rattle.mesh.specs.Mesh.{edges}
use Rattle.loop_step.specs.Refine.{mid}
use Rattle.rings.specs.Table.{Lent, ring_of, rows}
use Rattle.loop_points.specs.Level.{rings_up_to, positions_up_to}

-- the tables with the whole next level
unfoldable pub rings_next : ℕ → Lent → List ℕ
rings_next n t = rings_up_to n (n + edges (rows n t)) t

unfoldable pub positions_next : ℕ → Lent → List ℤ → List ℤ
positions_next n t ps = positions_up_to n (n + edges (rows n t)) t ps

-- the new table is as long as the old one, and right wherever the old one was: there it has what the target has
pub record Nearer {ℓ} {A : Type ℓ} (d : A) (target old new : List A) : Type ℓ where
  pub long : length new ≡ length old
  pub keeps : (a : ℕ) → get_or old a d ≡ get_or target a d → get_or new a d ≡ get_or target a d

-- the number of the new vertex of the edge at place i of p
abbrev pub number_at : ℕ → Lent → ℕ → ℕ → ℕ
number_at n t p i = mid (rows n t) p (get_or (ring_of t p) i 0)

-- where the rows of new vertices are right after some places i of vertices u are done: a row's places 0, 1, 5 and the unused ones by its lesser end, 2 to 4 by its greater end
pub record Halves (n : ℕ) (t : Lent) (new : List ℕ) (Did : ℕ → ℕ → Type 0) : Type 0 where
  pub nearer : Nearer 0 (rings_next n t) t.rings new
  pub low : (u i : ℕ) → Did u i → u < get_or (ring_of t u) i 0 → (k : ℕ) → k < most_valence → (k < 2) ⊎ (4 < k)
      → get_or new ((n + number_at n t u i) * most_valence + k) 0 ≡ get_or (rings_next n t) ((n + number_at n t u i) * most_valence + k) 0
  pub high : (u i : ℕ) → Did u i → get_or (ring_of t u) i 0 ≤ u → (k : ℕ) → 1 < k → k < 5
      → get_or new ((n + number_at n t u i) * most_valence + k) 0 ≡ get_or (rings_next n t) ((n + number_at n t u i) * most_valence + k) 0

-- where the points of new vertices are right: those of edges from u to a greater neighbour at place i
pub record Points (n : ℕ) (t : Lent) (ps new : List ℤ) (Did : ℕ → ℕ → Type 0) : Type 0 where
  pub nearer : Nearer (pos 0) (positions_next n t ps) ps new
  pub low : (u i : ℕ) → Did u i → u < get_or (ring_of t u) i 0 → (axis : ℕ) → axis < 3
      → get_or new ((n + number_at n t u i) * 3 + axis) (pos 0) ≡ get_or (positions_next n t ps) ((n + number_at n t u i) * 3 + axis) (pos 0)

-- place k of p; the places of p below k; all places of the vertices below k
abbrev pub OnePlace : ℕ → ℕ → ℕ → ℕ → Type 0
OnePlace p k u i = (u ≡ p) × (i ≡ k)

abbrev pub PlacesBelow : ℕ → ℕ → ℕ → ℕ → Type 0
PlacesBelow p k u i = (u ≡ p) × (i < k)

abbrev pub PlacesOfBelow : List ℕ → ℕ → ℕ → ℕ → Type 0
PlacesOfBelow vs k u i = (u < k) × (i < get_or vs u 0)
