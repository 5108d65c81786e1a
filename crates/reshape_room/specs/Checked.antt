-- For inside.
-- What the judging of an edit asks of the tables once the check accepts them.
-- Assumes nothing.
use Rattle.std.specs.Prelude.{ℕ, ◌≤◌}
use Rattle.mesh.specs.Limits.{most_count}
use Rattle.mesh.specs.Mesh.{Sound}
use Rattle.rings.specs.Table.{Lent, rows}
use Rattle.rings.specs.Accepts.{Fit}

-- the rings of n vertices passed the check
pub record Checked (n : ℕ) (t : Lent) : Type 0 where
  pub fit : Fit n t
  pub sound : Sound (rows n t)
  pub high : n ≤ most_count
