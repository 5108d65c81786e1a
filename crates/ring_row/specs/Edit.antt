-- To be believed.
-- What an edit is, and the two tables after it (document 01, "Ring rules"): v's row is written whole, with its unused places, and v's valence; or nothing is written.
-- Assumes nothing.
use Rattle.std.specs.Prelude.{Bool, cond, List, ℕ, ◌*◌, length, set}
use Rattle.mesh.specs.Limits.{most_valence}
use Rattle.rings.specs.Table.{put, padded}
use Rattle.rings.specs.Verdict.{after}
use Rattle.rings.specs.Refusal.{Verdict}

-- an edit: what it answers, whether it has an effect, and the new ring
pub record Edit : Type 0 where
  pub verdict : Verdict
  pub effect : Bool
  pub ring : List ℕ

-- the valences with the length of v's ring, if there is an effect
unfoldable pub valences_with : Bool → List ℕ → ℕ → List ℕ → List ℕ
valences_with effect vs v ring = cond effect (set vs v (length ring)) vs

-- the rings with v's row, if there is an effect
unfoldable pub rings_with : Bool → List ℕ → ℕ → List ℕ → List ℕ
rings_with effect rs v ring = cond effect (put rs (v * most_valence) (padded ring)) rs

-- the valences after an edit of v's ring: as they were where it is refused
unfoldable pub valences_after : Edit → List ℕ → ℕ → List ℕ
valences_after e vs v = after e.verdict (valences_with e.effect vs v e.ring) vs

-- the rings after an edit of v's ring
unfoldable pub rings_after : Edit → List ℕ → ℕ → List ℕ
rings_after e rs v = after e.verdict (rings_with e.effect rs v e.ring) rs
