-- To be believed.
-- The file of a tetrahedron, cut, lengthened and altered, and what reading has to say of each: reason 17 and its place.
-- Assumes nothing.
use Rattle.std.specs.Prelude.{ℕ, List, [], ◌∷◌, ◌++◌, ℤ, pos, get_or, take, drop, set, Ok, Err}
use Rattle.rings.specs.declared.Refusal.TheVariants.{FileLayout}
use Rattle.file_format.specs.Bytes.{bytes_of, record_of}
use Rattle.file_writing.specs.Write.{row_bytes, file_of}
use Rattle.rings.specs.Refusal.{Verdict}

-- the rings of a tetrahedron, with every vertex at the origin
abbrev pub rings : ℕ → List ℕ
rings v = get_or ((1 ∷ 2 ∷ 3 ∷ []) ∷ (0 ∷ 3 ∷ 2 ∷ []) ∷ (0 ∷ 1 ∷ 3 ∷ []) ∷ (0 ∷ 2 ∷ 1 ∷ []) ∷ []) v []

abbrev pub points : ℕ → ℕ → ℤ
points axis v = pos 0

unfoldable pub file : List ℕ
file = file_of 4 rings points

unfoldable pub files : List (List ℕ)
files =
    file
    -- bytes that are missing: a record cut in its header or payload, or not begun
    ∷ []
    ∷ take 5 file
    ∷ take 8 file
    ∷ take 13 file
    ∷ take 33 file
    ∷ take 34 file
    ∷ take 112 file
    ∷ take 117 file
    -- a byte after the last record
    ∷ (file ++ 0 ∷ [])
    -- the last record too early, a second first one, a row too many, an unknown kind
    ∷ (take 34 file ++ record_of 3 [])
    ∷ (take 34 file ++ record_of 1 (bytes_of 2 4) ++ drop 34 file)
    ∷ (take 112 file ++ row_bytes rings points 3 ++ record_of 3 [])
    ∷ set file 38 4
    -- a valence over 32, a length that does not fit the valence
    ∷ set file 52 33
    ∷ set file 34 21
    -- no vertices: the layout is good
    ∷ (record_of 1 (bytes_of 2 0) ++ record_of 3 [])
    ∷ []

-- refused at a place
abbrev pub at : ℕ → Verdict
at place = Err (FileLayout place)

-- the verdict on each
abbrev pub verdicts : List Verdict
verdicts =
    (Ok tt) ∷ at 0 ∷ at 0 ∷ at 8 ∷ at 8 ∷ at 8 ∷ at 34 ∷ at 112 ∷ at 112 ∷ at 118 ∷ at 34 ∷ at 34 ∷ at 112 ∷ at 34
    ∷ at 34 ∷ at 34 ∷ (Ok tt) ∷ []
