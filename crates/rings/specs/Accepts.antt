-- To be believed.
-- What the check accepts, as a proposition, and what functions on the tables ask for.
-- Assumes nothing.
use Rattle.std.specs.Prelude.{◌≡◌, false, List, ℕ, ◌+◌, ◌*◌, ◌≤◌, ◌<◌, ℤ, length}
use Rattle.mesh.specs.Limits.{least_count, most_count, most_valence}
use Rattle.mesh.specs.Mesh.{Sound}
use Rattle.units.specs.Coordinate.{InRange}
use Rattle.rings.specs.Table.{Lent, valence_at, rows, coordinate_at}
use Rattle.rings.specs.Check.{unfit_row}

-- the tables have rows for n vertices
pub record Room (n : ℕ) (t : Lent) : Type 0 where
  pub valences : n ≤ length t.valences
  pub rings : n * most_valence ≤ length t.rings

-- the tables hold v's row
pub record HasRow (t : Lent) (v : ℕ) : Type 0 where
  pub valence : v < length t.valences
  pub row : v * most_valence + valence_at t v ≤ length t.rings

-- the tables hold n vertices, and each ring is proper with valence 3 or more
pub record Fit (n : ℕ) (t : Lent) : Type 0 where
  pub room : Room n t
  pub fit : (v : ℕ) → v < n → unfit_row n t v ≡ false

-- V is 4 to 1,024, the tables have room, the mesh is sound, and the coordinates lie in the range
pub record Accepts (n : ℕ) (t : Lent) (ps : List ℤ) : Type 0 where
  pub low : least_count ≤ n
  pub high : n ≤ most_count
  pub room : Room n t
  pub points : n * 3 ≤ length ps
  pub most : (v : ℕ) → v < n → valence_at t v ≤ most_valence
  pub sound : Sound (rows n t)
  pub near : (v : ℕ) → v < n → (axis : ℕ) → axis < 3 → InRange (coordinate_at ps axis v)
