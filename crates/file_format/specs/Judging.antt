-- For inside.
-- How far the rows of a file are as expected.
-- Assumes nothing.
use Rattle.std.specs.Prelude.{◌≡◌, Bool, true, not, List, ℕ, ◌+◌, ◌*◌, ◌≤◌, ◌<◌, length}
use Rattle.mesh.specs.Limits.{most_valence}
use Rattle.mesh.specs.Search.{first}
use Rattle.file_format.specs.Layout.{row_at, file_valence, is_first, is_row}

-- what stands where row v is expected is no row
abbrev pub no_row : List ℕ → ℕ → Bool
no_row s v = not (is_row s (row_at s v))

-- of n records, this is the first that is no row, or n where each is one, and it begins at this place
pub record Passed (s : List ℕ) (n row at : ℕ) : Type 0 where
  pub first : row ≡ first (no_row s) n
  pub begins : at ≡ row_at s row
  pub within : at ≤ length s

-- row v begins at this place and has n neighbours
pub record Row (s : List ℕ) (v at n : ℕ) : Type 0 where
  pub begins : at ≡ row_at s v
  pub valence : n ≡ file_valence s at
  pub most : n ≤ most_valence
  pub within : at + 20 + n * 2 ≤ length s

-- the first record is there, and n rows behind it
pub record Rows (s : List ℕ) (n : ℕ) : Type 0 where
  pub first : is_first s ≡ true
  pub row : (v : ℕ) → v < n → is_row s (row_at s v) ≡ true
