-- To be believed.
-- The neighbours of a ring as bytes. Assumes nothing.
use Rattle.std.specs.Prelude.{List, ℕ, get_or}
use Rattle.file_format.specs.Bytes.{bytes_of}

-- neighbour i of a ring
abbrev pub neighbour_bytes : List ℕ → ℕ → List ℕ
neighbour_bytes ring i = bytes_of 2 (get_or ring i 0)
