-- `put_rows` meets its contract. Assumes nothing.
use native.Mathlib.Omega.{arith}
use Rattle.rings.specs.Table.{Lent, lent, ring_of, coordinate_at}
use Rattle.file_writing.specs.Write.{row_bytes}
use Rattle.file_format.proofs.Blocks.{rows_none, rows_next}
use Rattle.file_writing.proofs.RowsWritten.{length_none, length_more, length_within, rows_long}
use Rattle.file_writing.proofs.rows.put_rows.Goals as goal

pub loop-v-init : goal.loop-v-init
loop-v-init c =
    let a = c.args in
    record { place = omega (arith, length_none a.valences.now); put = rows_none (row_bytes (ring_of (lent a.valences.now a.rings.now)) (coordinate_at a.positions.now)) (omega arith) }

pub put_row-at-requires-clause-v_in_bounds : goal.put_row-at-requires-clause-v_in_bounds
put_row-at-requires-clause-v_in_bounds c = omega (arith, length_within c.args.valences.now c.loop-v.v c.args.count c.loop-v-test.true)

pub loop-v-preserved : goal.loop-v-preserved
loop-v-preserved c =
    let t : Lent = lent c.args.valences.now c.args.rings.now in
    record {
      place = omega (arith, c.put_row-at.ensures.value, length_more t.valences c.loop-v.v);
      put = rows_next (row_bytes (ring_of t) (coordinate_at c.args.positions.now)) c.loop-v.v c.loop-v.invariant.put c.put_row-at.ensures.put (omega (arith, rows_long c.requires.stored c.loop-v.v c.loop-v.auto.v-end));
    }
