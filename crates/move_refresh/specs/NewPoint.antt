-- For inside.
-- A new vertex of the next level set from the rings of new vertices alone: its edge, the vertices beside the edge, and so its mask, are read there.
-- The tables are parts that begin where the level below, of n vertices, begins.
-- Assumes nothing.
use Rattle.std.specs.Prelude.{ℕ, ◌+◌, ◌-◌, ◌*◌, ◌≤◌, ◌<◌, List, ℤ, length, get_or}
use Rattle.mesh.specs.Limits.{most_valence, most_vertices, stack_bound}
use Rattle.steps.specs.Mask.{Mask}
use Rattle.loop_step.specs.Loop.{edge_mask}
use Rattle.loop_points.specs.Level.{Near}

module _ (rings : List ℕ) (n x : ℕ) where
  -- the lesser end of the edge whose new vertex is x: place 0 of its ring
  abbrev pub low_read : ℕ
  low_read = get_or rings ((n + x) * most_valence) 0

  -- the greater end: place 3
  abbrev pub high_read : ℕ
  high_read = get_or rings ((n + x) * most_valence + 3) 0

  -- the other end than p
  unfoldable pub far_end : ℕ → ℕ
  far_end p = low_read + high_read - p

  -- x is the new vertex of an edge at p, whose other end is a vertex; its ring stands in the table
  pub record EdgeAt (p : ℕ) : Type 0 where
    pub row : (n + x) * most_valence + most_valence ≤ length rings
    pub least : p ≤ low_read + high_read
    pub known : far_end p < n

-- the mask of the new vertex x: the new vertices of the edges from its lesser end to a and b, the vertices beside its edge, are places 5 and 1 of its ring
module _ (rings : List ℕ) (n x : ℕ) where
  abbrev p : ℕ
  p = low_read rings n x

  -- the new vertex of the edge to a
  abbrev pub beside_a : ℕ
  beside_a = get_or rings ((n + x) * most_valence + 5) 0

  -- and to b
  abbrev pub beside_b : ℕ
  beside_b = get_or rings ((n + x) * most_valence + 1) 0

  unfoldable pub mask_read : Mask
  mask_read = edge_mask p (high_read rings n x) (far_end rings n beside_a p) (far_end rings n beside_b p)

  -- the rings that are read stand in the table, the vertices read have points, and x has a place for its own
  pub record NewReady (ps : List ℤ) : Type 0 where
    pub near : Near n ps
    pub fits : n ≤ most_vertices
    pub small : n + x ≤ stack_bound
    pub points : (n + x) * 3 + 3 ≤ length ps
    pub row : (n + x) * most_valence + most_valence ≤ length rings
    pub low : p < n
    pub high : high_read rings n x < n
    pub a : EdgeAt rings n beside_a p
    pub b : EdgeAt rings n beside_b p
