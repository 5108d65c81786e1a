-- For inside.
-- What the functions that read the vertices of a text rely on and promise.
-- Assumes nothing.
use Rattle.std.specs.Prelude.{◌≡◌, true, List, [], ◌∷◌, ℕ, ◌+◌, ◌<◌, ℤ}
use Rattle.off_text.specs.Layout.{is_vertex, vertex_at, text_point}

-- the lines of so many vertices, where they begin; each is as it should be
pub record VertexLines (s : List ℕ) (count from : ℕ) : Type 0 where
  pub begins : from ≡ vertex_at s 0
  pub good : (v : ℕ) → v < count → is_vertex s (vertex_at s v) ≡ true

-- the line of vertex v begins at a place and is as it should be
pub record VertexLine (s : List ℕ) (v at : ℕ) : Type 0 where
  pub begins : at ≡ vertex_at s v
  pub good : is_vertex s at ≡ true

-- these are the coordinates of vertex v, and where the next line begins
pub record PointRead (s : List ℕ) (v : ℕ) (x y z : ℤ) (next : ℕ) : Type 0 where
  pub x_is : x ≡ text_point s 0 v
  pub y_is : y ≡ text_point s 1 v
  pub z_is : z ≡ text_point s 2 v
  pub next_is : next ≡ vertex_at s (v + 1)

-- the point of vertex v as it is written
abbrev pub point_row : List ℕ → ℕ → List ℤ
point_row s v = text_point s 0 v ∷ text_point s 1 v ∷ text_point s 2 v ∷ []
