-- `opposite` meets its contract. Assumes nothing.
use Rattle.move_touched.proofs.Ends.{read_low, read_high}
use Rattle.move_touched.proofs.marks.opposite.Goals as goal

pub returns-then-t-u : goal.returns-then-t-u
returns-then-t-u c = let a = c.args in read_low a.rings.now a.count a.t a.u a.x c.if-t-u.true

pub returns-else-t-u : goal.returns-else-t-u
returns-else-t-u c = let a = c.args in read_high a.rings.now a.count a.t a.u a.x c.if-t-u.false
