-- `ascends` meets its contract. Assumes nothing.
use Rattle.stack_agreement.specs.Agreement.{edge_key}
use Rattle.stack_agreement.proofs.Telling.{rising_fall, rising_more}
use Rattle.stack_agreement.proofs.tables.ascends.Goals as goal
use Rattle.stack_agreement.proofs.tables.ascends.Goals.{then-key-least, else-key-least}

pub loop-x-preserved : goal.loop-x-preserved
unfolding edge_key
loop-x-preserved c =
    let t = c.loop-x.invariant in
    elim c.if-key-least.branch [ then-key-least w ↦ rising_fall t w.falls-is | else-key-least w ↦ rising_more t w.falls-is w.if-key-least.false ]
