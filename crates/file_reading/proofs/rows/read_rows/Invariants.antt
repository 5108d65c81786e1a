use Rattle.rings.specs.Table.{lent}
use Rattle.file_reading.proofs.RowsRead.{ReadTo}
use Rattle.file_reading.proofs.rows.read_rows.Given as goal

abbrev pub invariant-loop-v : goal.invariant-loop-v
invariant-loop-v l = ReadTo l.bytes (lent l.initial.valences l.initial.rings) l.initial.positions (lent l.valences l.rings) l.positions l.at l.v
