-- For inside.
-- What the functions that write a row rely on and promise.
-- Assumes nothing.
use Rattle.std.specs.Prelude.{List, ◌++◌, ℕ, ◌*◌, ◌≤◌, ◌<◌, ℤ, length}
use Rattle.mesh.specs.Limits.{most_valence}
use Rattle.rings.specs.Table.{Lent, valence_at, coordinate_at}
use Rattle.rings.specs.Accepts.{Room}
use Rattle.file_format.specs.Bytes.{bytes_of, bits_of}

-- the three coordinates of v
abbrev pub point_bytes : List ℤ → ℕ → List ℕ
point_bytes ps v = (bytes_of 4 (bits_of (coordinate_at ps 0 v)) ++ bytes_of 4 (bits_of (coordinate_at ps 1 v))) ++ bytes_of 4 (bits_of (coordinate_at ps 2 v))

-- the tables hold n vertices, and no valence is over 32
pub record Stored (n : ℕ) (t : Lent) (ps : List ℤ) : Type 0 where
  pub room : Room n t
  pub points : n * 3 ≤ length ps
  pub most : (v : ℕ) → v < n → valence_at t v ≤ most_valence
