-- To be believed.
-- Writing a face list: the check, then 10, and the number of bytes where it is accepted.
-- Assumes nothing.
use Rattle.std.specs.Prelude.{List, [], ◌∷◌, ◌++◌, ℕ, ltb, ℤ, length, Ok}
use Rattle.mesh.specs.Mesh.{Mesh, edges, faces}
use Rattle.rings.specs.Table.{Lent, gather, put, rows, coordinate_at}
use Rattle.rings.specs.Verdict.{refuse_if, and_then, after, with_amount}
use Rattle.rings.specs.Check.{check_verdict}
use Rattle.rings.specs.declared.Refusal.TheVariants.{NoRoom}
use Rattle.numerals.specs.Numerals.{blank, newline, number, signed}
use Rattle.off_rings.specs.Faces.{Face}
use Rattle.off_rings.specs.Listed.{listed}
use Rattle.rings.specs.Refusal.{Amount, Verdict}

-- OFF and a newline
abbrev pub word : List ℕ
word = 79 ∷ 70 ∷ 70 ∷ newline ∷ []

-- V, F and E
unfoldable pub counts_line : ℕ → ℕ → ℕ → List ℕ
counts_line v f e = number v blank ++ (number f blank ++ number e newline)

-- x, y and z
unfoldable pub vertex_line : (ℕ → ℤ) → List ℕ
vertex_line point = signed (point 0) blank ++ (signed (point 1) blank ++ signed (point 2) newline)

-- 3 and the corners
unfoldable pub face_line : Face → List ℕ
face_line f = (51 ∷ blank ∷ []) ++ (number f.a blank ++ (number f.b blank ++ number f.c newline))

-- the lines of some faces
unfoldable pub face_lines : List Face → List ℕ
face_lines [] = []
face_lines (f ∷ l) = face_line f ++ face_lines l

-- the text of a mesh with these points
unfoldable pub text_of : Mesh → (ℕ → ℕ → ℤ) → List ℕ
text_of M point =
    word
    ++ (counts_line M.count (faces M) (edges M)
    ++ (gather (λ v. vertex_line (λ axis. point axis v)) M.count ++ face_lines (listed M)))

module _ (n : ℕ) (t : Lent) (ps : List ℤ) (room : List ℕ) where
  -- the text of the tables
  abbrev pub text : List ℕ
  text = text_of (rows n t) (coordinate_at ps)

  -- the check, then 10
  unfoldable pub write_off_verdict : Verdict
  write_off_verdict = and_then (check_verdict n t ps) (refuse_if (ltb (length room) (length text)) NoRoom (Ok tt))

  -- the number of bytes
  unfoldable pub write_off_answer : Amount
  write_off_answer = with_amount write_off_verdict (length text)

  -- the room after the call
  unfoldable pub write_off_room : List ℕ
  write_off_room = after write_off_verdict (put room 0 text) room
