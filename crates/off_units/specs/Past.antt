-- For inside.
-- Where a text goes on behind what is expected at a place.
-- Assumes nothing.
use Rattle.std.specs.Prelude.{cond, List, ℕ, Option, Some, None, ltb}
use Rattle.off_numbers.specs.declared.Number.{Number}
use Rattle.off_numbers.specs.Text.{is_unit, after_unit}

-- the place behind a number that is at least so great
abbrev pub past_number : Option Number → ℕ → Option ℕ
past_number (Some n) least = cond (ltb n.value least) None (Some n.next)
past_number None least = None

-- the place behind units, where some stand
unfoldable pub past_unit : List ℕ → ℕ → ℕ → Option ℕ
past_unit s at last = cond (is_unit s at last) (Some (after_unit s at)) None
