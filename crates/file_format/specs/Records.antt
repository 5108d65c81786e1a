-- For inside.
-- What begins at the place that the record reader has reached, and where it advances to.
-- Assumes nothing.
use Rattle.std.specs.Prelude.{cond, List, ℕ, Option, None, Some}
use Rattle.file_format.specs.Bytes.{length_at, kind_at, after_at, whole_at}
use Rattle.file_format.specs.declared.Record.{Record}

-- a whole record, or none where bytes are missing
unfoldable pub found_at : List ℕ → ℕ → Option Record
found_at s at = cond (whole_at s at) (Some (record { kind = kind_at s at; length = length_at s at; next = after_at s at })) None

-- the place behind the record that begins at a place; the place itself where bytes are missing
unfoldable pub past_at : List ℕ → ℕ → ℕ
past_at s at = cond (whole_at s at) (after_at s at) at
