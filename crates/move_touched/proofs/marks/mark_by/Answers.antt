-- `mark_by` meets its contract. Assumes nothing.
use Rattle.rings.specs.Table.{rows}
use Rattle.move_touched.proofs.Judging.{marked_yes, marked_no}
use Rattle.move_touched.proofs.marks.mark_by.Goals as goal

pub returns-then-is_marked : goal.returns-then-is_marked
unfolding rows
returns-then-is_marked c =
    marked_yes _ _ _ _ _ c.is_marked.ensures c.if-is_marked.true c.mark_dependents.ensures

pub returns-else-is_marked : goal.returns-else-is_marked
returns-else-is_marked c = marked_no _ _ _ _ _ c.is_marked.ensures c.if-is_marked.false
