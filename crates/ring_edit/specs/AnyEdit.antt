-- For inside.
-- The five edits under one name, for what holds of each of them.
-- Assumes nothing.
use Rattle.std.specs.Prelude.{List, ℕ}
use Rattle.rings.specs.Table.{Lent}
use Rattle.ring_row.specs.Edit.{Edit}
use Rattle.ring_edit.specs.Calls.{make_edit, erase_edit, replace_edit, insert_after_edit, insert_before_edit}

-- an edit with what it is told besides the tables and v
pub data Call : Type 0 where
  Make : List ℕ → Call
  Erase : ℕ → Call
  Replace : ℕ → ℕ → Call
  InsertAfter : ℕ → ℕ → Call
  InsertBefore : ℕ → ℕ → Call

-- what it answers and does
abbrev pub edit_of : ℕ → Lent → ℕ → Call → Edit
edit_of n t v (Make l) = make_edit n t v l
edit_of n t v (Erase x) = erase_edit n t v x
edit_of n t v (Replace a x) = replace_edit n t v a x
edit_of n t v (InsertAfter a x) = insert_after_edit n t v a x
edit_of n t v (InsertBefore a x) = insert_before_edit n t v a x
