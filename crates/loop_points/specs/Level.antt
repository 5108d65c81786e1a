-- To be believed.
-- One level in the lent tables: level k stands in the first rows, and level k + 1 goes right behind it. Tables here are parts that begin where level k begins.
-- Assumes nothing.
use Rattle.std.specs.Prelude.{◌≡◌, List, [], ◌∷◌, ℕ, ◌+◌, ◌*◌, ◌≤◌, ◌<◌, ℤ, length, get_or}
use Rattle.mesh.specs.Limits.{most_valence, most_vertices, most_units}
use Rattle.mesh.specs.Mesh.{Mesh, Sound, edges, up}
use Rattle.mesh.specs.Numbering.{start}
use Rattle.mesh.specs.Ring.{next, prev}
use Rattle.steps.specs.Mask.{Mask, by_mask}
use Rattle.steps.specs.Round.{Is}
use Rattle.loop_step.specs.Refine.{mid, refine}
use Rattle.loop_step.specs.Loop.{edge_mask, loop_mask}
use Rattle.units.specs.Coordinate.{InRange}
use Rattle.units.specs.Points.{ring_sum}
use Rattle.units.specs.declared.Point.{Point}
use Rattle.rings.specs.Table.{Lent, valence_at, put, ring_of, rows, valence_rows, ring_rows, coordinate_at, point_rows}
use Rattle.rings.specs.Accepts.{Room}
use Rattle.loop_points.specs.declared.Sums.{Sums}

-- the first n rows are a sound mesh, the next level has at most 65,535 vertices, and the tables have rows for both
pub record Ready (n : ℕ) (t : Lent) : Type 0 where
  pub room : Room (n + (n + edges (rows n t))) t
  pub most : (v : ℕ) → v < n → valence_at t v ≤ most_valence
  pub sound : Sound (rows n t)
  pub fits : n + edges (rows n t) ≤ most_vertices

-- the coordinates of the first n points are there and in range
pub record Near (n : ℕ) (ps : List ℤ) : Type 0 where
  pub points : n * 3 ≤ length ps
  pub near : (v : ℕ) → v < n → (axis : ℕ) → axis < 3 → InRange (coordinate_at ps axis v)

-- the entries of a ring are below n
pub record AllBelow (n : ℕ) (ring : List ℕ) : Type 0 where
  pub below : (i : ℕ) → i < length ring → get_or ring i 0 < n

-- s is the sum of one coordinate over a ring's vertices, moved up once for each, and not more than they allow
pub record SumOf (ring : List ℕ) (at : ℕ → ℤ) (s : ℕ) : Type 0 where
  pub sum : Is (ring_sum at ring) s (length ring * most_units)
  pub small : s ≤ length ring * (2 * most_units)

-- the three sums of a ring
pub record SumsOf (ring : List ℕ) (ps : List ℤ) (s : Sums) : Type 0 where
  pub x : SumOf ring (coordinate_at ps 0) s.x
  pub y : SumOf ring (coordinate_at ps 1) s.y
  pub z : SumOf ring (coordinate_at ps 2) s.z

-- how many edges p < q the vertices below p have
unfoldable pub start_of : ℕ → Lent → ℕ → ℕ
start_of n t p = start (up (rows n t)) p

-- the old vertices below k have their rings of the next level
pub record HasOld (n : ℕ) (t : Lent) (k : ℕ) : Type 0 where
  pub place : (u : ℕ) → u < k → (i : ℕ) → i < valence_at t u → get_or t.rings ((n + u) * most_valence + i) 0 ≡ mid (rows n t) u (get_or (ring_of t u) i 0)

-- the point that a mask gives
unfoldable pub point_by : Mask → List ℤ → Point
point_by μ ps = record { x = by_mask μ (coordinate_at ps 0); y = by_mask μ (coordinate_at ps 1); z = by_mask μ (coordinate_at ps 2) }

-- the point of the new vertex of the edge p, q, by p's ring
unfoldable pub edge_point_by : List ℕ → List ℤ → ℕ → ℕ → Point
edge_point_by ring ps p q = point_by (edge_mask p q (next ring q) (prev ring q)) ps

-- a point's three coordinates
abbrev pub coordinates : Point → List ℤ
coordinates p = p.x ∷ p.y ∷ p.z ∷ []

-- the coordinates of the next level's points
unfoldable pub next_point : Mesh → List ℤ → ℕ → ℕ → ℤ
next_point M ps axis x = by_mask (loop_mask M x) (coordinate_at ps axis)

-- the tables with k vertices of the next level written right behind the n of this one
module _ (n k : ℕ) (t : Lent) where
  unfoldable pub valences_up_to : List ℕ
  valences_up_to = put t.valences n (valence_rows (refine (rows n t)).ring k)

  -- their rings
  unfoldable pub rings_up_to : List ℕ
  rings_up_to = put t.rings (n * most_valence) (ring_rows (refine (rows n t)).ring k)

  -- their points
  unfoldable pub positions_up_to : List ℤ → List ℤ
  positions_up_to ps = put ps (n * 3) (point_rows (next_point (rows n t) ps) k)

-- the tables hold the next level's first k vertices already
pub record UpTo (n k : ℕ) (t : Lent) (ps : List ℤ) : Type 0 where
  pub valences : t.valences ≡ valences_up_to n k t
  pub rings : t.rings ≡ rings_up_to n k t
  pub positions : ps ≡ positions_up_to n k t ps

-- the tables have rows for this level and the next, and the next is not too large; the control points, or this level's, are in range
pub record Levels (n : ℕ) (t : Lent) (ps : List ℤ) : Type 0 where
  pub ready : Ready n t
  pub near : Near n ps
  pub points : (n + (n + edges (rows n t))) * 3 ≤ length ps
