-- `put_row` meets its contract. Assumes nothing.
use mathlib.Core.Path.{ap}
use Prim.Native.Nat.{ℕ, ◌+◌, ◌*◌}
use Rattle.file_writing.proofs.RowsWritten.{row_put}
use Rattle.file_writing.proofs.rows.put_row.Goals as goal

pub ring_of-ring-requires : goal.ring_of-ring-requires
ring_of-ring-requires c = c.requires.has_row

pub returns : goal.returns
returns c =
    record { put = row_put _ _ _ c.ring_of-ring.ensures.result_value c.put_head.ensures c.put_point.ensures c.put_two.ensures c.put_ring.ensures; value = ap (λ (k : ℕ). c.args.at + (20 + 2 * k)) c.ring_of-ring.ensures.result_len }
