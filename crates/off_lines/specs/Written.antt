-- For inside.
-- What a function that writes a part of a text promises, and the line of one vertex of the tables.
-- Assumes nothing.
use Rattle.std.specs.Prelude.{◌≡◌, List, ℕ, ◌+◌, ℤ, length}
use Rattle.rings.specs.Table.{coordinate_at}
use Rattle.file_format.specs.Blocks.{Put}
use Rattle.off_text.specs.WriteOff.{vertex_line}

-- the block stands in the text from a place on, everything else is as it was, and the block ends before place `end`
pub record Written (old : List ℕ) (at : ℕ) (block new : List ℕ) (end : ℕ) : Type 0 where
  pub put : Put old at block new
  pub ends : end ≡ at + length block

-- the line of v
abbrev pub line_of : List ℤ → ℕ → List ℕ
line_of ps v = vertex_line (λ axis. coordinate_at ps axis v)
