-- For inside.
-- What the quick pass looks at: the valences, and at each vertex the turn from neighbour to neighbour.
-- Assumes nothing.
use Rattle.std.specs.Prelude.{◌≡◌, List, ℕ, ◌≤◌, ◌<◌, length, get_or}
use Rattle.mesh.specs.Limits.{least_valence, most_valence}
use Rattle.mesh.specs.Ring.{place_before, Follows}

-- the valences of n vertices are 3 to 32
pub record FitValences (n : ℕ) (vs : List ℕ) : Type 0 where
  pub least : (v : ℕ) → v < n → least_valence ≤ get_or vs v 0
  pub most : (v : ℕ) → v < n → get_or vs v 0 ≤ most_valence

-- below place i of v's ring, of n vertices: each neighbour is a vertex and has v, with the neighbour before it after v; and the first neighbour doesn't come again
pub record Turns (n : ℕ) (ring : ℕ → List ℕ) (v i : ℕ) : Type 0 where
  pub known : (k : ℕ) → k < i → get_or (ring v) k 0 < n
  pub back : (k : ℕ) → k < i → Follows (ring (get_or (ring v) k 0)) v (get_or (ring v) (place_before (length (ring v)) k) 0)
  pub once : (k : ℕ) → k < i → 0 < k → get_or (ring v) k 0 ≡ get_or (ring v) 0 0 → ⊥
