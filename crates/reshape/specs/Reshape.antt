-- To be believed.
-- The three edits of a control mesh (document 02, order 1): the rows that each writes, and what stands against it.
-- An edge is named by its ends in either order, with p the lesser. A face u, v, w has next(u in v) = w, and is named from
-- any corner on. The new vertex x has number V.
-- Assumes nothing.
use Rattle.std.specs.Prelude.{Bool, cond, not, ◌||◌, List, [], ◌∷◌, ℕ, suc, min, max, ltb, leb, length}
use Rattle.mesh.specs.Limits.{most_count, least_valence, most_valence}
use Rattle.mesh.specs.Ring.{has, next, prev, follows}
use Rattle.mesh.specs.Edits.{erase, replace, insert_after}
use Rattle.mesh.specs.Mesh.{Mesh}
use Rattle.reshape.specs.Rows.{Row, row, rewritten}

-- three corners in order
pub record Corners : Type 0 where
  pub one : ℕ
  pub two : ℕ
  pub three : ℕ

-- u, then v, then w
abbrev pub corners : ℕ → ℕ → ℕ → Corners
corners u v w = record { one = u; two = v; three = w }

-- the same corners, from the smallest on
unfoldable pub from_smallest : ℕ → ℕ → ℕ → Corners
from_smallest u v w = cond (ltb u (min v w)) (corners u v w) (cond (ltb v (min w u)) (corners v w u) (corners w u v))

-- the rows of each edit, from the rings as they were
module _ (ring : ℕ → List ℕ) where
  -- an edge split: x in q's place at p and in p's place at q, after p in a, after q in b
  abbrev pub edge_rows_of : ℕ → ℕ → ℕ → ℕ → ℕ → List Row
  edge_rows_of p q a b x =
      row p (replace q x (ring p))
      ∷ row q (replace p x (ring q))
      ∷ row a (insert_after p x (ring a))
      ∷ row b (insert_after q x (ring b))
      ∷ row x (p ∷ b ∷ q ∷ a ∷ [])
      ∷ []

  -- a face split: in each corner x follows the corner that comes first there
  abbrev pub face_rows_of : ℕ → ℕ → ℕ → ℕ → List Row
  face_rows_of u v w x =
      row u (insert_after w x (ring u))
      ∷ row v (insert_after u x (ring v))
      ∷ row w (insert_after v x (ring w))
      ∷ row x (u ∷ w ∷ v ∷ [])
      ∷ []

  -- an edge flipped: p and q leave one another, b comes after p in a, and a after q in b
  abbrev pub flip_rows_of : ℕ → ℕ → ℕ → ℕ → List Row
  flip_rows_of p q a b =
      row p (erase q (ring p))
      ∷ row q (erase p (ring q))
      ∷ row a (insert_after p b (ring a))
      ∷ row b (insert_after q a (ring b))
      ∷ []

module _ (M : Mesh) where
  -- the vertices beside the edge p, q (document 01, "Refinement, one level"): a after q in p, b before it
  abbrev pub beyond : ℕ → ℕ → ℕ
  beyond p q = next (M.ring p) q

  abbrev pub behind : ℕ → ℕ → ℕ
  behind p q = prev (M.ring p) q

  -- ---- an edge split

  -- the rows of the split of the edge p, q
  unfoldable pub edge_rows : ℕ → ℕ → List Row
  edge_rows p q = edge_rows_of M.ring p q (beyond p q) (behind p q) M.count

  -- the mesh after the split of the edge u, v; p is the lesser end, as in document 01
  unfoldable pub split_edge : ℕ → ℕ → Mesh
  split_edge u v = rewritten M (suc M.count) (edge_rows (min u v) (max u v))

  -- ---- a face split

  -- the rows of the split of the face with these corners
  unfoldable pub face_rows : Corners → List Row
  face_rows c = face_rows_of M.ring c.one c.two c.three M.count

  -- the mesh after the split of the face u, v, w, from its smallest corner on
  unfoldable pub split_face : ℕ → ℕ → ℕ → Mesh
  split_face u v w = rewritten M (suc M.count) (face_rows (from_smallest u v w))

  -- ---- an edge flipped

  -- the rows of the flip of the edge p, q
  unfoldable pub flip_rows : ℕ → ℕ → List Row
  flip_rows p q = flip_rows_of M.ring p q (beyond p q) (behind p q)

  -- the mesh after the flip of the edge u, v
  unfoldable pub flip : ℕ → ℕ → Mesh
  flip u v = rewritten M M.count (flip_rows (min u v) (max u v))

  -- ---- what stands against an edit

  -- 18: p and q are no edge
  unfoldable pub no_edge : ℕ → ℕ → Bool
  no_edge p q = not (has q (M.ring p))

  -- 18: u, v, w are no face
  unfoldable pub no_face : ℕ → ℕ → ℕ → Bool
  no_face u v w = not (follows (M.ring v) u w)

  -- 16: there is no number for a new vertex
  unfoldable pub no_number : Bool
  no_number = leb most_count M.count

  -- 16: the ring of v has no room for one entry more
  unfoldable pub full : ℕ → Bool
  full v = leb most_valence (length (M.ring v))

  -- 16, at an edge: both vertices beside it get an entry
  unfoldable pub full_beside : ℕ → ℕ → Bool
  full_beside p q = full (beyond p q) || full (behind p q)

  -- 16, at a face: each corner gets an entry
  unfoldable pub full_corner : ℕ → ℕ → ℕ → Bool
  full_corner u v w = full u || (full v || full w)

  -- 19: an end has valence 3, or the two vertices beside the edge are neighbours
  unfoldable pub cannot_flip : ℕ → ℕ → Bool
  cannot_flip p q =
      leb (length (M.ring p)) least_valence
      || (leb (length (M.ring q)) least_valence
      || has (behind p q) (M.ring (beyond p q)))
