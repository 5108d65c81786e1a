-- For inside.
-- The faces at one vertex as two lists, in the order of the faces: what comes before the vertex in each, and what comes behind it.
-- What code keeps of a vertex while it judges it.
-- Assumes nothing.
use Rattle.std.specs.Prelude.{Bool, cond, ◌||◌, List, [], ◌∷◌, ◌++◌, ℕ, zero, suc, eqb, length, get_or}
use Rattle.mesh.specs.Search.{first}
use Rattle.mesh.specs.Ring.{has, place}
use Rattle.off_rings.specs.Faces.{Face, corner, before, behind, steps, trail}

-- of the first k faces
module _ (face : ℕ → Face) (v : ℕ) where
  unfoldable pub befores : ℕ → List ℕ
  befores zero = []
  befores (suc k) = befores k ++ cond (corner v (face k)) (before v (face k) ∷ []) []

  unfoldable pub behinds : ℕ → List ℕ
  behinds zero = []
  behinds (suc k) = behinds k ++ cond (corner v (face k)) (behind v (face k) ∷ []) []

-- n vertices, and the two lists of one of them
module _ (n : ℕ) (from to : List ℕ) where
  -- what follows x: the entry of the second list where x stands in the first; n where it does not
  unfoldable pub follower : ℕ → ℕ
  follower x = cond (has x from) (get_or to (place x from) 0) n

  -- the smallest entry of the first
  unfoldable pub smallest : ℕ
  smallest = first (λ x. has x from) n

  -- the ring, and whether it closes
  unfoldable pub fan_ring : List ℕ
  fan_ring = trail follower smallest (length from)

  abbrev pub fan_back : ℕ → Bool
  fan_back k = eqb (steps follower smallest (suc k)) smallest

  unfoldable pub fan_closes : Bool
  fan_closes = eqb (length from) 0 || eqb (suc (first fan_back (length from))) (length from)
