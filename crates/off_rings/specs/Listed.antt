-- To be believed.
-- The faces of a mesh in order (order 4): each once, beginning with its smallest corner, ascending.
-- Assumes nothing.
use Rattle.std.specs.Prelude.{◌≡◌, Bool, cond, ◌&&◌, List, [], ◌∷◌, ◌++◌, ◌⊎◌, ℕ, zero, suc, ◌<◌, ltb}
use Rattle.mesh.specs.Ring.{has, prev}
use Rattle.mesh.specs.Mesh.{Mesh}
use Rattle.off_rings.specs.Faces.{Face}

-- f comes before g: by the first corner, then by the second
abbrev pub Earlier : Face → Face → Type 0
Earlier f g = (f.a < g.a) ⊎ ((f.a ≡ g.a) × (f.b < g.b))

module _ (M : Mesh) where
  -- the face behind the edge a, b: a, b and prev(b in a)
  unfoldable pub face_at : ℕ → ℕ → Face
  face_at a b = record { a = a; b = b; c = prev (M.ring a) b }

  -- it is a face, and a its smallest corner
  unfoldable pub begins : ℕ → ℕ → Bool
  begins a b = has b (M.ring a) && (ltb a b && ltb a (prev (M.ring a) b))

  -- the faces of a with b below k, and of all below k
  unfoldable pub faces_from : ℕ → ℕ → List Face
  faces_from a zero = []
  faces_from a (suc k) = faces_from a k ++ cond (begins a k) (face_at a k ∷ []) []

  unfoldable pub faces_below : ℕ → List Face
  faces_below zero = []
  faces_below (suc k) = faces_below k ++ faces_from k M.count

  -- all faces
  unfoldable pub listed : List Face
  listed = faces_below M.count
