-- To be believed.
-- The lent tables with some rows written: each row whole, with its unused places, and its valence. Every other place is as it was.
-- Assumes nothing.
use Rattle.std.specs.Prelude.{true, List, [], ◌∷◌, ℕ, ◌*◌, ℤ}
use Rattle.rings.specs.Table.{put}
use Rattle.loop_points.specs.Level.{point_by, coordinates}
use Rattle.ring_row.specs.Edit.{valences_with, rings_with}
use Rattle.reshape.specs.Rows.{Row}
use Rattle.reshape.specs.Mean.{mean_mask}

-- the valences with those of the rows
abbrev pub valences_by : List Row → List ℕ → List ℕ
valences_by [] vs = vs
valences_by (r ∷ l) vs = valences_with true (valences_by l vs) r.vertex r.ring

-- the rings with the rows
abbrev pub rings_by : List Row → List ℕ → List ℕ
rings_by [] rs = rs
rings_by (r ∷ l) rs = rings_with true (rings_by l rs) r.vertex r.ring

-- the positions with the point of vertex n at the mean of these corners
unfoldable pub mean_put : ℕ → List ℕ → List ℤ → List ℤ
mean_put n l ps = put ps (n * 3) (coordinates (point_by (mean_mask l) ps))
