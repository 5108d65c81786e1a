-- `write` meets its contract. Assumes nothing.
use mathlib.Core.Path.{refl}
use native.Mathlib.Omega.{arith}
use Rattle.rings.proofs.Rewrite.{written_start, written_more}
use Rattle.ring_row.proofs.RowWritten.{front_written}
use Rattle.ring_row.proofs.row.write.Goals as goal

pub loop-k-init : goal.loop-k-init
loop-k-init c = written_start (λ j l. absurd (omega arith))

pub loop-k-preserved : goal.loop-k-preserved
loop-k-preserved c = written_more c.loop-k.invariant (omega arith) _ refl

pub pad-requires-clause-row_len : goal.pad-requires-clause-row_len
pad-requires-clause-row_len c = omega (arith, c.loop-k.invariant.long)

pub returns : goal.returns
returns c = front_written c.loop-k.invariant _ refl (omega arith) (omega arith) _ c.pad.ensures
