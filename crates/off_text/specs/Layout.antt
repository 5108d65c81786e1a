-- To be believed.
-- The text of a face list (document 02, order 4): the word OFF; V, F and E; a line for each vertex; a line for each face, 3 a b c;
-- each ended by a newline, with single blanks, and nothing more. Reason 20 stands at the first line that is not as expected, counted from 1.
-- Assumes nothing.
use Rattle.std.specs.Prelude.{Bool, not, ◌&&◌, List, ℕ, zero, suc, ◌+◌, ◌*◌, ltb, eqb, ℤ, length, Ok}
use Rattle.rings.specs.Verdict.{refuse_if, refuse_at}
use Rattle.rings.specs.declared.Refusal.TheVariants.{BadText}
use Rattle.numerals.specs.Numerals.{blank, newline}
use Rattle.off_numbers.specs.Text.{numbers32, byte_at, value_at, after_at, is_number, is_unit, unit_at, after_unit}
use Rattle.off_rings.specs.Faces.{Face, bad_face}
use Rattle.rings.specs.Refusal.{Verdict}

-- where the second line begins
abbrev pub counts_at : ℕ
counts_at = 4

module _ (s : List ℕ) where
  -- line 1: the word OFF
  unfoldable pub is_word : Bool
  is_word = (eqb (byte_at s 0) 79 && eqb (byte_at s 1) 70) && (eqb (byte_at s 2) 70 && eqb (byte_at s 3) newline)

  -- line 2: V, F and E
  unfoldable pub text_count : ℕ
  text_count = value_at s counts_at

  unfoldable pub text_faces : ℕ
  text_faces = value_at s (after_at s counts_at)

  unfoldable pub text_edges : ℕ
  text_edges = value_at s (after_at s (after_at s counts_at))

  -- three numbers, and twice the edges are three times the faces
  unfoldable pub is_counts : Bool
  is_counts =
      (is_number s counts_at numbers32 blank
      && (is_number s (after_at s counts_at) numbers32 blank && is_number s (after_at s (after_at s counts_at)) numbers32 newline))
      && eqb (2 * text_edges) (3 * text_faces)

  -- a vertex: x, y and z in units, from a place on
  unfoldable pub is_vertex : ℕ → Bool
  is_vertex at = is_unit s at blank && (is_unit s (after_unit s at) blank && is_unit s (after_unit s (after_unit s at)) newline)

  unfoldable pub after_vertex : ℕ → ℕ
  after_vertex at = after_unit s (after_unit s (after_unit s at))

  -- where the line of vertex v begins; that of vertex V stands for the first face
  unfoldable pub vertex_at : ℕ → ℕ
  vertex_at zero = after_at s (after_at s (after_at s counts_at))
  vertex_at (suc v) = after_vertex (vertex_at v)

  -- where coordinate `axis` of the line at a place begins
  unfoldable pub axis_at : ℕ → ℕ → ℕ
  axis_at at zero = at
  axis_at at (suc axis) = after_unit s (axis_at at axis)

  -- one coordinate of vertex v
  unfoldable pub text_point : ℕ → ℕ → ℤ
  text_point axis v = unit_at s (axis_at (vertex_at v) axis)

  -- the three corners of a face, whose line begins at a place
  unfoldable pub corners_at : ℕ → Face
  corners_at at = record {
    a = value_at s (at + 2);
    b = value_at s (after_at s (at + 2));
    c = value_at s (after_at s (after_at s (at + 2)));
  }

  -- the line of a face, whatever its corners: 3 and three numbers
  unfoldable pub is_corners : ℕ → Bool
  is_corners at =
      (eqb (byte_at s at) 51 && eqb (byte_at s (at + 1)) blank)
      && (is_number s (at + 2) numbers32 blank
      && (is_number s (after_at s (at + 2)) numbers32 blank && is_number s (after_at s (after_at s (at + 2))) numbers32 newline))

  -- a face: its corners are vertices that differ
  unfoldable pub is_face : ℕ → Bool
  is_face at = is_corners at && not (bad_face text_count (corners_at at))

  unfoldable pub after_face : ℕ → ℕ
  after_face at = after_at s (after_at s (after_at s (at + 2)))

  -- where the line of face i begins; that of face F stands for the text's end
  unfoldable pub face_line_at : ℕ → ℕ
  face_line_at zero = vertex_at text_count
  face_line_at (suc i) = after_face (face_line_at i)

  -- face i
  unfoldable pub text_face : ℕ → Face
  text_face i = corners_at (face_line_at i)

  -- 20
  unfoldable pub text_verdict : Verdict
  text_verdict =
      refuse_if (not is_word) (BadText 1)
      (refuse_if (not is_counts) (BadText 2)
      (refuse_at (λ v. not (is_vertex (vertex_at v))) text_count (λ v. BadText (3 + v))
      (refuse_at (λ i. not (is_face (face_line_at i))) text_faces (λ i. BadText (3 + text_count + i))
      (refuse_if (ltb (face_line_at text_faces) (length s)) (BadText (3 + text_count + text_faces))
      (Ok tt)))))
