-- `read_rows` meets its contract. Assumes nothing.
use mathlib.Core.Path.{◌∙◌}
use native.Mathlib.Omega.{arith}
use borrow.Author.Rules.{rules}
use Rattle.file_format.proofs.Blocks.{put_one}
use Rattle.file_format.proofs.Judging.{first_past}
use Rattle.file_reading.proofs.RowsRead.{read_none, read_next, row_of, row_fits, row_after}
use Rattle.file_reading.proofs.rows.read_rows.Goals as goal

pub loop-v-init : goal.loop-v-init
loop-v-init c = read_none _ _ _ (c.place_after-at.ensures ∙ first_past _ c.requires.rows.first)

pub overflow_add-at : goal.overflow_add-at
overflow_add-at c = let h = row_fits _ _ c.loop-v.at (c.requires.rows.row _ c.loop-v-test.true) c.loop-v.invariant.here in search rules

pub two_at-n-requires : goal.two_at-n-requires
two_at-n-requires c = omega (arith, row_fits _ _ _ (c.requires.rows.row _ c.loop-v-test.true) c.loop-v.invariant.here)

pub read_ring-requires-clause-row : goal.read_ring-requires-clause-row
read_ring-requires-clause-row c = row_of _ _ _ _ (c.requires.rows.row _ c.loop-v-test.true) c.loop-v.invariant.here c.two_at-n.ensures.value

pub read_point-requires-clause-at_in_bounds : goal.read_point-requires-clause-at_in_bounds
read_point-requires-clause-at_in_bounds c = row_fits _ _ _ (c.requires.rows.row _ c.loop-v-test.true) c.loop-v.invariant.here

pub overflow_add-at-in-loop-v-2 : goal.overflow_add-at-in-loop-v-2
overflow_add-at-in-loop-v-2 c =
    let r = row_of _ _ _ c.two_at-n.result (c.requires.rows.row _ c.loop-v-test.true) c.loop-v.invariant.here c.two_at-n.ensures.value in
    let h = r.within in
    search rules

pub loop-v-preserved : goal.loop-v-preserved
loop-v-preserved c =
    let g = c.requires.rows.row _ c.loop-v-test.true in
    let r = row_of _ _ _ c.two_at-n.result g c.loop-v.invariant.here c.two_at-n.ensures.value in
    read_next c.loop-v.invariant r (put_one (omega arith)) c.read_ring.ensures c.read_point.ensures (row_after _ _ _ _ g r)
