-- For inside.
-- The faces of one vertex by its ring alone.
-- Assumes nothing.
use Rattle.std.specs.Prelude.{cond, ◌&&◌, List, [], ◌∷◌, ◌++◌, ℕ, zero, suc, ◌<◌, ltb}
use Rattle.mesh.specs.Ring.{◌∈◌, Distinct, has, prev}
use Rattle.off_rings.specs.Faces.{Face}

-- the numbers of a ring are below n, and none stands there twice
pub record Ascending (ring : List ℕ) (n : ℕ) : Type 0 where
  pub known : (u : ℕ) → u ∈ ring → u < n
  pub distinct : Distinct ring

-- the faces with a as their smallest corner, whose second corner is below k
unfoldable pub faces_of : List ℕ → ℕ → ℕ → List Face
faces_of ring a zero = []
faces_of ring a (suc k) =
    faces_of ring a k
    ++ cond (has k ring && (ltb a k && ltb a (prev ring k))) (record { a = a; b = k; c = prev ring k } ∷ []) []
