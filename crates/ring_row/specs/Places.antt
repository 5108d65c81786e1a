-- For inside.
-- What the edits ask of the tables once the call is judged, and an insertion that knows its place.
-- Assumes nothing.
use Rattle.std.specs.Prelude.{true, ℕ, ◌+◌, ◌*◌, ◌≤◌, ◌<◌, leb, length, Ok}
use Rattle.mesh.specs.Limits.{most_valence}
use Rattle.mesh.specs.Edits.{opened}
use Rattle.rings.specs.Table.{Lent, valence_at, ring_of}
use Rattle.rings.specs.Verdict.{refuse_if}
use Rattle.ring_row.specs.Edit.{Edit}
use Rattle.rings.specs.declared.Refusal.TheVariants.{RingFull}

-- the tables hold v's valence and all places of its row
pub record Editable (t : Lent) (v : ℕ) : Type 0 where
  pub valence : v < length t.valences
  pub row : v * most_valence + most_valence ≤ length t.rings

-- x put in at place i: only 16 is left to judge
unfoldable pub open_edit : Lent → ℕ → ℕ → ℕ → Edit
open_edit t v i x = record { verdict = refuse_if (leb most_valence (valence_at t v)) RingFull (Ok tt); effect = true; ring = opened (ring_of t v) i x }
