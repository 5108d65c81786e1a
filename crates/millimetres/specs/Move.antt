-- To be believed.
-- One move of one point (section "Moves", refusals 13 and 14).
-- Assumes nothing.
use Rattle.std.specs.Prelude.{Bool, cond, ◌&&◌, Result, Ok, Err}
use Rattle.std.specs.Float.{binary64}
use Rattle.std.specs.Float.Ieee.{add, mul}
use Rattle.std.specs.Float.Ieee.Scale.{finite}
use Rattle.millimetres.specs.Millimetres.{inside, units_of}
use Rattle.millimetres.specs.declared.Mm.{Mm}
use Rattle.millimetres.specs.declared.Change.{Change}
use Rattle.millimetres.specs.declared.Change.TheVariants.{Place, Shift, Stretch}
use Rattle.units.specs.declared.Point.{Point}
use Rattle.millimetres.specs.declared.Unmoved.{Unmoved}
use Rattle.millimetres.specs.declared.Unmoved.TheVariants.{NotFinite, OutOfReach}

-- the three numbers of a move
abbrev pub numbers_of : Change → Mm
numbers_of (Place x y z) = record { x = x; y = y; z = z }
numbers_of (Shift x y z) = record { x = x; y = y; z = z }
numbers_of (Stretch x y z) = record { x = x; y = y; z = z }

-- all three are finite
unfoldable pub fit : Change → Bool
fit c = finite (numbers_of c).x && finite (numbers_of c).y && finite (numbers_of c).z

-- the result in millimetres: a sum or a product is one operation on 64-bit floats, which rounds once
abbrev pub changed_by : Mm → Change → Mm
changed_by p (Place x y z) = record { x = x; y = y; z = z }
changed_by p (Shift x y z) = record { x = add binary64 p.x x; y = add binary64 p.y y; z = add binary64 p.z z }
changed_by p (Stretch x y z) = record { x = mul binary64 p.x x; y = mul binary64 p.y y; z = mul binary64 p.z z }

-- the result in units, or 14 where a coordinate is out of range
unfoldable pub settled_at : Mm → Result Point Unmoved
settled_at m =
    cond (inside m.x && inside m.y && inside m.z) (Ok (record { x = units_of m.x; y = units_of m.y; z = units_of m.z })) (Err OutOfReach)

-- one move: 13 looks at all three numbers before 14 looks at a result
unfoldable pub moved_to : Mm → Change → Result Point Unmoved
moved_to p c = cond (fit c) (settled_at (changed_by p c)) (Err NotFinite)
