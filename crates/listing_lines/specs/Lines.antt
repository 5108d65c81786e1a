-- To be believed.
-- Lines as bytes (document 01, the listing): single blanks between their numbers, a newline at each line's end.
-- Assumes nothing.
use Rattle.std.specs.Prelude.{List, [], ◌∷◌, ◌++◌, ℕ, ◌+◌, get_or, ℤ}
use Rattle.rings.specs.Table.{coordinate_at}
use Rattle.rings.specs.declared.Refusal.{Refusal}
use Rattle.rings.specs.Refusal.{number_of, place_of}
use Rattle.numerals.specs.Numerals.{blank, newline, number, signed}

-- level, V, E and F
unfoldable pub counts_line : ℕ → ℕ → ℕ → ℕ → List ℕ
counts_line level v e f = number level blank ++ (number v blank ++ (number e blank ++ number f newline))

-- the line of vertex j of the level whose rows begin at `base`: its number, x, y, z, valence
unfoldable pub vertex_line : List ℕ → List ℤ → ℕ → ℕ → List ℕ
vertex_line vs ps base j =
    number j blank
    ++ (signed (coordinate_at ps 0 (base + j)) blank
    ++ (signed (coordinate_at ps 1 (base + j)) blank
    ++ (signed (coordinate_at ps 2 (base + j)) blank
    ++ number (get_or vs (base + j) 0) newline)))

-- the word `refused` and a blank
abbrev pub word : List ℕ
word = 114 ∷ 101 ∷ 102 ∷ 117 ∷ 115 ∷ 101 ∷ 100 ∷ blank ∷ []

-- the line of a refusal: number and place
unfoldable pub refused_line : Refusal → List ℕ
refused_line r = word ++ (number (number_of r) blank ++ number (place_of r) newline)
