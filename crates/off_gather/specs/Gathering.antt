-- For inside.
-- What the functions that gather the faces of a text rely on and promise.
-- Assumes nothing.
use Rattle.std.specs.Prelude.{◌≡◌, true, List, ℕ, ◌+◌, ◌≤◌, ◌<◌, length}
use Rattle.mesh.specs.Limits.{most_count}
use Rattle.off_numbers.specs.Text.{numbers32}
use Rattle.off_rings.specs.Fans.{befores, behinds}
use Rattle.off_text.specs.Layout.{text_count, text_faces, is_face, face_line_at, text_face, corners_at, after_face}
use Rattle.off_fans.specs.Rows.{Fans}

-- the lines of the faces, where they begin; each is as it should be, and the vertices are few
pub record FaceLines (s : List ℕ) (faces from : ℕ) : Type 0 where
  pub all : faces ≡ text_faces s
  pub begins : from ≡ face_line_at s 0
  pub number : faces < numbers32
  pub few : text_count s ≤ most_count
  pub good : (i : ℕ) → i < faces → is_face s (face_line_at s i) ≡ true

-- these are the corners of the face whose line begins at a place, and where the next line begins
pub record Cornered (s : List ℕ) (at a b c next : ℕ) : Type 0 where
  pub a_is : a ≡ (corners_at s at).a
  pub b_is : b ≡ (corners_at s at).b
  pub c_is : c ≡ (corners_at s at).c
  pub next_is : next ≡ after_face s at
  pub within : next ≤ length s
  pub a_small : a < text_count s
  pub b_small : b < text_count s
  pub c_small : c < text_count s

-- the rows keep, for vertex first + j, what comes before it and behind it in the first k faces
pub record Gathered (s : List ℕ) (first rows width k : ℕ) (counts froms tos : List ℕ) : Type 0 where
  pub fans : Fans rows width counts froms tos (λ j. befores (text_face s) (first + j) k) (λ j. behinds (text_face s) (first + j) k)

-- the line of face i begins at a place and is as it should be, and the vertices are few
pub record FaceLine (s : List ℕ) (i at : ℕ) : Type 0 where
  pub few : text_count s ≤ most_count
  pub number : i < numbers32
  pub begins : at ≡ face_line_at s i
  pub good : is_face s at ≡ true

-- the tables are as long as they were
pub record SameRoom (counts froms tos counts' froms' tos' : List ℕ) : Type 0 where
  pub counts_same : length counts' ≡ length counts
  pub froms_same : length froms' ≡ length froms
  pub tos_same : length tos' ≡ length tos
