-- For inside.
-- How many bytes the text of a mesh takes, worked out without its faces: a vertex stands in as many faces as it has neighbours.
-- Assumes nothing.
use Rattle.std.specs.Prelude.{List, ℕ, ◌+◌, ◌*◌, ℤ, length, get_or}
use Rattle.mesh.specs.Search.{sum}
use Rattle.rings.specs.Table.{coordinate_at}
use Rattle.numerals.specs.Numerals.{digits, signed}

-- the line of v: three coordinates, each with the byte behind it
unfoldable pub point_length : List ℤ → ℕ → ℕ
point_length ps v = length (signed (coordinate_at ps 0 v) 0) + length (signed (coordinate_at ps 1 v) 0) + length (signed (coordinate_at ps 2 v) 0)

-- the lines of n vertices
unfoldable pub points_length : List ℤ → ℕ → ℕ
points_length ps n = sum (point_length ps) n

-- the digits of the corners of all faces: those of v as often as v has neighbours
unfoldable pub corners_length : List ℕ → ℕ → ℕ
corners_length vs n = sum (λ v. get_or vs v 0 * length (digits 20 v)) n

-- the whole text: a face line has five bytes beside its corners' digits, the second line three, the first is four long
unfoldable pub text_length : ℕ → List ℕ → List ℤ → ℕ → ℕ → ℕ
text_length n vs ps e f =
    4 + (length (digits 20 n) + length (digits 20 f) + length (digits 20 e) + 3) + (points_length ps n + (5 * f + corners_length vs n))
