-- For inside.
-- Blocks of vertices: as many rows of one width as two tables of 1,024 places hold, 128 at most.
-- Assumes nothing.
use Rattle.std.specs.Prelude.{List, ℕ, ◌+◌, ◌-◌, ◌*◌, ◌≤◌, ◌<◌, length}

-- the places of each table, and the most rows of a block
abbrev pub places : ℕ
places = 1024

abbrev pub most_rows : ℕ
most_rows = 128

-- the least width of a row
abbrev pub least_width : ℕ
least_width = 8

-- a width that the rows of a block may have
pub record Width (width : ℕ) : Type 0 where
  pub low : least_width ≤ width
  pub high : width ≤ places

-- the rows of a block, where so many vertices are left
pub record Block (width left rows : ℕ) : Type 0 where
  pub some : 0 < left → 0 < rows
  pub within : rows ≤ left
  pub few : rows ≤ most_rows
  pub fit : rows * width ≤ places

-- the tables are as long as blocks need them
pub record Tables (counts froms tos : List ℕ) : Type 0 where
  pub counts_long : most_rows ≤ length counts
  pub froms_long : places ≤ length froms
  pub tos_long : places ≤ length tos

-- what is still to be done falls where a vertex is passed or the rows get wider
unfoldable pub ahead : ℕ → ℕ → ℕ → ℕ
ahead count at width = (count - at) * 2048 + (places - width)
