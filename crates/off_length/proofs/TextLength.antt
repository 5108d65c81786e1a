-- The text of a mesh that passed the check is as long as `text_length` says. Assumes nothing.
use mathlib.Core.Path.{◌≡◌, refl, ap, ◌∙◌}
use mathlib.Core.List.{List, [], ◌∷◌, ◌++◌}
use Prim.Native.Nat.{ℕ, zero, suc, ◌+◌, ◌*◌}
use native.Mathlib.Omega.{arith}
use lib.IntN.{ℤ}
use lib.ListN.{length, length-append}
use Rattle.mesh.specs.Search.{sum}
use Rattle.mesh.specs.Mesh.{Mesh, edges, faces}
use Rattle.mesh.proofs.Lists.{sum_same}
use Rattle.rings.specs.Accepts.{Accepts}
use Rattle.rings.specs.Table.{Lent, valence_at, gather, rows, coordinate_at}
use Rattle.rings.proofs.Rows.{rows_ring, row_length, room_row}
use Rattle.numerals.specs.Numerals.{blank, newline, digits, number, signed}
use Rattle.numerals.proofs.Digits.{number_length, signed_length}
use Rattle.off_rings.specs.Faces.{Face}
use Rattle.off_rings.specs.Listed.{listed}
use Rattle.off_rings.proofs.Tallies.{tally}
use Rattle.off_rings.proofs.ListedPairs.{listed_count}
use Rattle.off_rings.proofs.CornersCounted.{at_corners, corners_counted}
use Rattle.off_text.specs.WriteOff.{counts_line, vertex_line, face_line, face_lines, text_of}
use Rattle.off_length.specs.Length.{point_length, points_length, corners_length, text_length}

-- how many digits a number has
abbrev wide : ℕ → ℕ
wide n = length (digits 20 n)

-- ---- lines

three_length : (a b c : List ℕ) → length (a ++ (b ++ c)) ≡ length a + length b + length c
three_length a b c = omega (arith, length-append a (b ++ c), length-append b c)

counts_length : (v f e : ℕ) → length (counts_line v f e) ≡ wide v + wide f + wide e + 3
unfolding counts_line
counts_length v f e =
    omega (arith, three_length (number v blank) (number f blank) (number e newline), number_length v blank, number_length f blank, number_length e newline)

vertex_length : (ps : List ℤ) (v : ℕ) → length (vertex_line (λ axis. coordinate_at ps axis v)) ≡ point_length ps v
unfolding vertex_line point_length
vertex_length ps v =
    let x : ℤ = coordinate_at ps 0 v in
    let y : ℤ = coordinate_at ps 1 v in
    let z : ℤ = coordinate_at ps 2 v in
    let e = three_length (signed x blank) (signed y blank) (signed z newline) in
    omega (arith, e, signed_length x blank 0, signed_length y blank 0, signed_length z newline 0)

face_length : (f : Face) → length (face_line f) ≡ at_corners wide f + 5
unfolding face_line
face_length f =
    let a : List ℕ = number f.a blank in
    let b : List ℕ = number f.b blank in
    let c : List ℕ = number f.c newline in
    omega (arith, three_length a b c, number_length f.a blank, number_length f.b blank, number_length f.c newline)

-- ---- lines in a row

lines_length : (f : ℕ → List ℕ) (n : ℕ) → length (gather f n) ≡ sum (λ v. length (f v)) n
lines_length f zero = refl
lines_length f (suc n) = omega (arith, length-append (gather f n) (f n), lines_length f n)

faces_length : (l : List Face) → length (face_lines l) ≡ 5 * length l + tally (at_corners wide) l
unfolding face_lines
faces_length [] = refl
faces_length (f ∷ l) = omega (arith, length-append (face_line f) (face_lines l), face_length f, faces_length l)

-- ---- the whole text

corners_length_lem : (n : ℕ) (t : Lent) (ps : List ℤ) → Accepts n t ps → tally (at_corners wide) (listed (rows n t)) ≡ corners_length t.valences n
unfolding rows corners_length
corners_length_lem n t ps k =
    corners_counted wide (rows n t) k.sound
    ∙ sum_same _ (λ v. valence_at t v * wide v) n (λ v h.
    ap (λ l. length l * wide v) (rows_ring n t v h) ∙ ap (λ j. j * wide v) (row_length t v (room_row k.room h (k.most v h))))

pub text_length_lem : (n : ℕ) (t : Lent) (ps : List ℤ) → Accepts n t ps
    → length (text_of (rows n t) (coordinate_at ps)) ≡ text_length n t.valences ps (edges (rows n t)) (faces (rows n t))
unfolding rows text_of text_length points_length
text_length_lem n t ps k =
    let M : Mesh = rows n t in
    let line : ℕ → List ℕ = λ v. vertex_line (λ axis. coordinate_at ps axis v) in
    let counts : List ℕ = counts_line n (faces M) (edges M) in
    let points : List ℕ = gather line n in
    let last : List ℕ = face_lines (listed M) in
    omega (
      arith,
      three_length counts points last,
      counts_length n (faces M) (edges M),
      lines_length line n ∙ sum_same _ (point_length ps) n (λ v h. vertex_length ps v),
      faces_length (listed M),
      listed_count M k.sound,
      corners_length_lem n t ps k,
    )
