-- For inside.
-- One level refreshed (document 01, "Moves"): which points of the next level are touched, how they are marked from the vertices that they depend on, and the
-- positions once they are set. The tables are parts that begin where the level below begins; that level has the numbers from `base` on in the map, and the next
-- level those right behind.
-- Assumes nothing.
use Rattle.std.specs.Prelude.{ℕ, ◌+◌, ◌-◌, ◌*◌, ◌≤◌, ◌<◌, ◌≡◌, Bool, false, cond, ◌&&◌, ◌||◌, List, [], ◌∷◌, leb, ltb, ℤ, length, get_or}
use Rattle.mesh.specs.Limits.{most_valence, stack_bound}
use Rattle.mesh.specs.Ring.{has}
use Rattle.mesh.specs.Mesh.{Mesh, edges}
use Rattle.steps.specs.Mask.{any_source}
use Rattle.loop_step.specs.Refine.{refine}
use Rattle.loop_step.specs.Loop.{loop_mask}
use Rattle.loop_step.specs.Dependents.{dependents}
use Rattle.rings.specs.Table.{Lent, put, ring_of, rows, coordinate_at, point_rows}
use Rattle.loop_points.specs.Level.{Ready, next_point}

-- the members of a set from `base` on, numbered from 0
unfoldable pub from : ℕ → (ℕ → Bool) → ℕ → Bool
from base set v = set (base + v)

-- vertex x of the level above M is touched: some source of its mask is touched below
unfoldable pub touched_next : Mesh → (ℕ → Bool) → ℕ → Bool
touched_next M below x = any_source below (loop_mask M x).terms

-- the set with the numbers of a list in it, counted from `start` on
unfoldable pub joined : (ℕ → Bool) → ℕ → List ℕ → ℕ → Bool
joined set start l j = set j || (leb start j && has (j - start) l)

-- the numbers below `end` are in the map, and few enough to reckon with
pub record InMap (end : ℕ) (map : List ℕ) : Type 0 where
  pub small : end ≤ stack_bound
  pub room : end ≤ length map * 32

-- the rings of the next level are as refinement gives them
pub record NextRings (n : ℕ) (t : Lent) : Type 0 where
  pub ring : (x : ℕ) → x < n + edges (rows n t) → ring_of t (n + x) ≡ (refine (rows n t)).ring x

-- this level and the next stand in the tables, and are in the map
pub record BothLevels (base n : ℕ) (t : Lent) (map : List ℕ) : Type 0 where
  pub numbers : InMap (base + (n + (n + edges (rows n t)))) map
  pub ready : Ready n t
  pub rings : NextRings n t

-- ---- one place of a ring: the neighbour u of v, and the new vertex x of the edge between

module _ (rings : List ℕ) (n v u x : ℕ) where
  -- the new vertex of the edge opposite v in the face behind u, as the ring of x has it: in place 4 if v is the lesser end, else in place 1
  unfoldable pub opposite_read : ℕ
  opposite_read = get_or rings ((n + x) * most_valence + cond (ltb v u) 4 1) 0

  -- what depends on v by that place
  abbrev pub place_dependents : List ℕ
  place_dependents = u ∷ x ∷ opposite_read ∷ []

  -- the ring of x stands in the table, and what depends on v by that place is in the map, counted from `start` on
  pub record PlaceInMap (start : ℕ) (map : List ℕ) : Type 0 where
    pub row : (n + x) * most_valence + most_valence ≤ length rings
    pub neighbour : InMap (start + u + 1) map
    pub edge : InMap (start + x + 1) map
    pub far : InMap (start + opposite_read + 1) map

-- ---- a level

module _ (M : Mesh) (base : ℕ) (set : ℕ → Bool) where
  -- no vertex of the next level is in the set
  pub record NextUnmarked : Type 0 where
    pub unmarked : (x : ℕ) → x < M.count + edges M → set (base + M.count + x) ≡ false

  -- the set with the dependents of vertex v in it, if v is in it
  unfoldable pub marked_by : ℕ → ℕ → Bool
  marked_by v = cond (set (base + v)) (joined set (base + M.count) (dependents M v)) set

  -- the set once the first k vertices of the next level are judged: each is in it where it is touched
  unfoldable pub marks_up_to : ℕ → ℕ → Bool
  marks_up_to k j = cond (leb (base + M.count) j && ltb j (base + M.count + k)) (touched_next M (from base set) (j - (base + M.count))) (set j)

  module _ (ps : List ℤ) where
    -- one coordinate of vertex x of the next level: by its mask where it is touched, else what it holds
    unfoldable pub renewed : ℕ → ℕ → ℤ
    renewed axis x = cond (touched_next M (from base set) x) (next_point M ps axis x) (coordinate_at ps axis (M.count + x))

    -- the positions once this is done for the first k vertices of the next level
    unfoldable pub points_up_to : ℕ → List ℤ
    points_up_to k = put ps (M.count * 3) (point_rows renewed k)

-- the positions with vertex x of the next level set by its mask
unfoldable pub point_set : Mesh → List ℤ → ℕ → List ℤ
point_set M ps x = put ps ((M.count + x) * 3) (next_point M ps 0 x ∷ next_point M ps 1 x ∷ next_point M ps 2 x ∷ [])

-- the same, if it is in the set
unfoldable pub points_with : Mesh → ℕ → (ℕ → Bool) → List ℤ → ℕ → List ℤ
points_with M base set ps x = cond (set (base + M.count + x)) (point_set M ps x) ps
