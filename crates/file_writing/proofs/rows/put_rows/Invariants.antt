use Prim.Native.Nat.{◌+◌}
use mathlib.Core.Path.{◌≡◌}
use Rattle.rings.specs.Table.{lent, gather, ring_of, coordinate_at}
use Rattle.file_format.specs.Blocks.{Put}
use Rattle.file_writing.specs.Write.{row_bytes, rows_length}
use Rattle.file_writing.proofs.rows.put_rows.Given as goal

abbrev pub invariant-loop-v : goal.invariant-loop-v
invariant-loop-v l = record {
  place : l.at ≡ 8 + rows_length l.valences l.v;
  put : Put l.initial.file 8 (gather (row_bytes (ring_of (lent l.valences l.rings)) (coordinate_at l.positions)) l.v) l.file;
}
