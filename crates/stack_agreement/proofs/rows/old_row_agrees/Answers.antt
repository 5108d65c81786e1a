-- `old_row_agrees` meets its contract. Assumes nothing.
use Rattle.loop_points.proofs.Mids.{ready_row}
use Rattle.stack_agreement.proofs.QuickRows.{above_row, row_asks, row_agreed}
use Rattle.stack_agreement.proofs.rows.old_row_agrees.Goals as goal

pub ring_of-row-requires : goal.ring_of-row-requires
ring_of-row-requires c = ready_row c.requires.ready c.requires.p_lt_count

pub ring_of-next-requires : goal.ring_of-next-requires
ring_of-next-requires c = above_row c.requires.ready c.requires.p_lt_count

pub any_row_agrees-requires : goal.any_row_agrees-requires
any_row_agrees-requires c =
    let t = row_asks c.requires.ready c.requires.p_lt_count
    c.requires.end_value c.ring_of-row.result.now c.ring_of-next.result.now c.ring_of-row.ensures.result_len
    c.ring_of-next.ensures.result_len in
    record { end_le_most_vertices = t.0; most_valence_in_bounds = t.1.0; row_nonzero = t.1.1.0; next_len = t.1.1.1 }

pub returns : goal.returns
returns c = λ e. row_agreed c.requires.ready c.ring_of-row.ensures.result_value c.ring_of-next.ensures.result_value (c.any_row_agrees.ensures e)
