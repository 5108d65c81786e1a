-- `mark_place` meets its contract. Assumes nothing.
use Rattle.move_touched.proofs.Joined.{three_joined}
use Rattle.move_touched.proofs.marks.mark_place.Goals as goal

pub returns : goal.returns
returns c =
    let a = c.args in
    three_joined _ a.start a.u a.x _ c.mark.ensures c.mark-2.ensures (rw c.opposite.ensures at c.mark-3.ensures)
