-- To be believed.
-- The three calls (document 02, order 1): what each judges, in order, what it answers, and the tables after it.
-- All are refused by the check first; then 3 for a number that is no vertex, 18, 16, 19 and 10, each with place 0.
-- An accepted call answers V, E and F of the mesh after it, as an accepted check does. A refused one writes nothing.
-- Assumes nothing.
use Rattle.std.specs.Prelude.{◌||◌, List, [], ◌∷◌, ℕ, suc, min, max, leb, ℤ, Ok}
use Rattle.mesh.specs.Mesh.{Mesh, edges, faces}
use Rattle.rings.specs.Table.{Lent, rows}
use Rattle.rings.specs.Verdict.{refuse_if, and_then, after, with_counts}
use Rattle.rings.specs.Check.{short_tables, check_verdict}
use Rattle.rings.specs.declared.Refusal.TheVariants.{NoSuchVertex, NoRoom, RingFull, NoEdgeOrFace, CannotFlip}
use Rattle.reshape.specs.Rows.{Row}
use Rattle.reshape.specs.Reshape.{from_smallest, edge_rows, face_rows, flip_rows}
use Rattle.reshape.specs.Reshape.{split_edge, split_face, flip}
use Rattle.reshape.specs.Reshape.{no_edge, no_face, no_number, full_beside, full_corner, cannot_flip}
use Rattle.reshape_tables.specs.Written.{valences_by, rings_by, mean_put}
use Rattle.rings.specs.Refusal.{Counted, Verdict}

-- ---- what is judged after the check

module _ (n : ℕ) (t : Lent) where
  -- 3, 18 and 16 of the edge named by u and v
  unfoldable pub edge_verdict : ℕ → ℕ → Verdict
  edge_verdict u v =
      refuse_if (leb n u || leb n v) (NoSuchVertex 0)
      (refuse_if (no_edge (rows n t) (min u v) (max u v)) NoEdgeOrFace
      (refuse_if (full_beside (rows n t) (min u v) (max u v)) RingFull
      (Ok tt)))

  -- 3, 18 and 16 of the face named by u, v and w
  unfoldable pub face_verdict : ℕ → ℕ → ℕ → Verdict
  face_verdict u v w =
      refuse_if (leb n u || (leb n v || leb n w)) (NoSuchVertex 0)
      (refuse_if (no_face (rows n t) u v w) NoEdgeOrFace
      (refuse_if (full_corner (rows n t) u v w) RingFull
      (Ok tt)))

  -- 19 of a flip
  unfoldable pub turn_verdict : ℕ → ℕ → Verdict
  turn_verdict u v = refuse_if (cannot_flip (rows n t) (min u v) (max u v)) CannotFlip (Ok tt)

  -- 16 and 10 of a new vertex: its number, and its rows in the tables
  unfoldable pub new_verdict : List ℤ → Verdict
  new_verdict ps = refuse_if (no_number (rows n t)) RingFull (refuse_if (short_tables (suc n) t ps) NoRoom (Ok tt))

-- ---- the three calls

-- what an edit answers and does: its verdict, the mesh after it, the rows that it writes, and the corners that the new vertex lies between
pub record Reshaping : Type 0 where
  pub verdict : Verdict
  pub result : Mesh
  pub written : List Row
  pub between : List ℕ

module _ (n : ℕ) (t : Lent) (ps : List ℤ) where
  -- a split of the edge u, v
  unfoldable pub split_edge_verdict : ℕ → ℕ → Verdict
  split_edge_verdict u v = and_then (check_verdict n t ps) (and_then (edge_verdict n t u v) (new_verdict n t ps))

  -- its new vertex lies between the two ends
  unfoldable pub edge_splitting : ℕ → ℕ → Reshaping
  edge_splitting u v = record {
    verdict = split_edge_verdict u v;
    result = split_edge (rows n t) u v;
    written = edge_rows (rows n t) (min u v) (max u v);
    between = min u v ∷ max u v ∷ [];
  }

  -- a split of the face u, v, w
  unfoldable pub split_face_verdict : ℕ → ℕ → ℕ → Verdict
  split_face_verdict u v w = and_then (check_verdict n t ps) (and_then (face_verdict n t u v w) (new_verdict n t ps))

  -- its new vertex lies between the three corners
  unfoldable pub face_splitting : ℕ → ℕ → ℕ → Reshaping
  face_splitting u v w = record {
    verdict = split_face_verdict u v w;
    result = split_face (rows n t) u v w;
    written = face_rows (rows n t) (from_smallest u v w);
    between = let c = from_smallest u v w in c.one ∷ c.two ∷ c.three ∷ [];
  }

  -- a flip of the edge u, v
  unfoldable pub flip_verdict : ℕ → ℕ → Verdict
  flip_verdict u v = and_then (check_verdict n t ps) (and_then (edge_verdict n t u v) (turn_verdict n t u v))

  -- it brings no vertex
  unfoldable pub edge_flipping : ℕ → ℕ → Reshaping
  edge_flipping u v = record {
    verdict = flip_verdict u v;
    result = flip (rows n t) u v;
    written = flip_rows (rows n t) (min u v) (max u v);
    between = [];
  }

-- ---- the answer, and the tables at exit

-- V, E and F of the mesh after it, or why it is refused
unfoldable pub reshape_answer : Reshaping → Counted
reshape_answer e = with_counts e.verdict e.result.count (edges e.result) (faces e.result)

-- the valences
unfoldable pub reshaped_valences : Reshaping → List ℕ → List ℕ
reshaped_valences e vs = after e.verdict (valences_by e.written vs) vs

-- the rings
unfoldable pub reshaped_rings : Reshaping → List ℕ → List ℕ
reshaped_rings e rs = after e.verdict (rings_by e.written rs) rs

-- the positions, of a call for n vertices that adds one
unfoldable pub reshaped_positions : Reshaping → ℕ → List ℤ → List ℤ
reshaped_positions e n ps = after e.verdict (mean_put n e.between ps) ps
