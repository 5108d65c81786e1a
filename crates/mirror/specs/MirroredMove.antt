-- To be believed.
-- The mirrored point and the mirrored move (document 02, order 3): a placing or a shift with its x negated, a stretch as it is.
-- Assumes nothing.
use Rattle.std.specs.Prelude.{neg_ℤ, Result, Ok, Err}
use Rattle.std.specs.Float.Ieee.{neg}
use Rattle.units.specs.declared.Point.{Point}
use Rattle.millimetres.specs.declared.Change.{Change}
use Rattle.millimetres.specs.declared.Change.TheVariants.{Place, Shift, Stretch}
use Rattle.millimetres.specs.declared.Unmoved.{Unmoved}

abbrev pub mirrored_change : Change → Change
mirrored_change (Place x y z) = Place (neg x) y z
mirrored_change (Shift x y z) = Shift (neg x) y z
mirrored_change (Stretch x y z) = Stretch x y z

-- the point on the other side of x = 0
abbrev pub mirrored_point : Point → Point
mirrored_point p = record { x = neg_ℤ p.x; y = p.y; z = p.z }

-- where a move leads, mirrored; a refusal stays
abbrev pub mirrored_moved : Result Point Unmoved → Result Point Unmoved
mirrored_moved (Ok p) = Ok (mirrored_point p)
mirrored_moved (Err e) = Err e
