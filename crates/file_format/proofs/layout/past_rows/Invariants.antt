-- All records before the reader's place are rows, and it stands where the next row begins.
use Rattle.std.proofs.Common.{◌≡◌}
use Rattle.file_format.proofs.Judging.{Reaches}
use Rattle.file_format.proofs.layout.past_rows.Given as goal

abbrev pub invariant-loop-row : goal.invariant-loop-row
invariant-loop-row l = record { same_bytes : l.records.bytes.now ≡ l.bytes; reached : Reaches l.bytes l.row l.records.at }
