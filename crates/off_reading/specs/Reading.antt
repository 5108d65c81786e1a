-- For inside.
-- What the part of reading behind 20, 2 and 1 relies on.
-- Assumes nothing.
use Rattle.std.specs.Prelude.{◌≡◌, List, ℕ, ◌*◌, ◌≤◌, ℤ, length}
use Rattle.rings.specs.Table.{Lent}
use Rattle.rings.specs.Accepts.{Room}
use Rattle.off_text.specs.Layout.{text_count}
use Rattle.off_gather.specs.Gathering.{FaceLines}
use Rattle.off_points.specs.Points.{VertexLines}

-- the lines of a text are as they should be, and the tables have rows for its vertices
pub record Lines (s : List ℕ) (count faces points corners : ℕ) (t : Lent) (ps : List ℤ) : Type 0 where
  pub count_is : count ≡ text_count s
  pub vertex_lines : VertexLines s count points
  pub face_lines : FaceLines s faces corners
  pub room : Room count t
  pub points_room : count * 3 ≤ length ps
