-- `replace_at` meets its contract. Assumes nothing.
use Rattle.ring_row.proofs.TablesWritten.{at_replaced}
use Rattle.ring_row.proofs.places.replace_at.Goals as goal

pub returns : goal.returns
returns c = at_replaced _ _ c.requires.editable c.requires.v_bound _ _ _ c.put_at.ensures
