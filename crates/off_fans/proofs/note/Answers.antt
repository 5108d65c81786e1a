-- `note` meets its contract. Assumes nothing.
use Rattle.off_fans.proofs.Noting.{note_more}
use Rattle.off_fans.proofs.note.Goals as goal

pub returns-then-k-width : goal.returns-then-k-width
returns-then-k-width c =
    note_more _ _ _ _ _ _ _ c.requires.j_in_bounds c.if-k-width.true c.requires.width_in_bounds c.requires.width_in_bounds_2
