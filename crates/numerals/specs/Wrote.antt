-- For inside.
-- What a function that writes a part of the text promises.
-- Assumes nothing.
use Rattle.std.specs.Prelude.{◌≡◌, List, ℕ, ◌+◌, ◌≤◌, length}
use Rattle.file_format.specs.Blocks.{Put}

-- the block stands in the text from a place on, everything else is as it was, and the block ends before place `end`, at most `most` bytes on
pub record Wrote (old : List ℕ) (at : ℕ) (block new : List ℕ) (end most : ℕ) : Type 0 where
  pub put : Put old at block new
  pub ends : end ≡ at + length block
  pub within : end ≤ at + most
