-- For inside.
-- What is known of a row before one of its entries is put in, taken out or exchanged.
-- Assumes nothing.
use Rattle.std.specs.Prelude.{ℕ, ◌+◌, ◌≤◌}
use Rattle.mesh.specs.Limits.{most_valence}
use Rattle.mesh.specs.Ring.{◌∈◌}
use Rattle.rings.specs.Table.{Lent, valence_at, ring_of}
use Rattle.ring_row.specs.Places.{Editable}

-- v's row can be written and has room for some entries more, and c stands in its ring
pub record Ready (more : ℕ) (t : Lent) (v c : ℕ) : Type 0 where
  pub row : Editable t v
  pub room : valence_at t v + more ≤ most_valence
  pub there : c ∈ ring_of t v
