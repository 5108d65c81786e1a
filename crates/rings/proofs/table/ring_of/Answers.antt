-- `ring_of` meets its contract. Assumes nothing.
use Rattle.rings.proofs.Rows.{row_is}
use Rattle.rings.proofs.table.ring_of.Goals as goal

pub returns-clause-result_value : goal.returns-clause-result_value
returns-clause-result_value c = row_is _ _
