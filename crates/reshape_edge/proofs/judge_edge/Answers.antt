-- `judge_edge` meets its contract. Assumes nothing.
use Rattle.reshape_room.proofs.CheckedTables.{in_table}
use Rattle.reshape_edge.proofs.EdgesJudged.{unknown_u, unknown_v, ends_of, ends_row, nothing_after, nothing_before, after_lt, before_lt}
use Rattle.reshape_edge.proofs.EdgesJudged.{full_after, full_before, both_free}
use Rattle.reshape_edge.proofs.judge_edge.Goals as goal

pub returns-then-count-u : goal.returns-then-count-u
returns-then-count-u c = unknown_u _ _ _ _ c.if-count-u.true

pub returns-then-count-v : goal.returns-then-count-v
returns-then-count-v c = unknown_v _ _ _ _ c.if-count-u.false c.if-count-v.true

pub ring_of-ring-requires : goal.ring_of-ring-requires
ring_of-ring-requires c = ends_row _ _ _ _ c.requires c.if-count-u.false c.if-count-v.false _ c.lesser-p.ensures

pub returns-in_default : goal.returns-in_default
returns-in_default c =
    let ends = ends_of _ _ _ _ c.requires c.if-count-u.false c.if-count-v.false c.lesser-p.ensures c.greater-q.ensures c.ring_of-ring.ensures.result_value in
    nothing_after ends c.in_default.ensures

pub returns-in_default-before_in : goal.returns-in_default-before_in
returns-in_default-before_in c =
    let ends = ends_of _ _ _ _ c.requires c.if-count-u.false c.if-count-v.false c.lesser-p.ensures c.greater-q.ensures c.ring_of-ring.ensures.result_value in
    nothing_before ends c.in_default-before_in.ensures

pub is_full-requires : goal.is_full-requires
is_full-requires c =
    let ends = ends_of _ _ _ _ c.requires c.if-count-u.false c.if-count-v.false c.lesser-p.ensures c.greater-q.ensures c.ring_of-ring.ensures.result_value in
    in_table c.requires _ (after_lt ends c.in-Some.ensures)

pub returns-then-is_full : goal.returns-then-is_full
returns-then-is_full c =
    let ends = ends_of _ _ _ _ c.requires c.if-count-u.false c.if-count-v.false c.lesser-p.ensures c.greater-q.ensures c.ring_of-ring.ensures.result_value in
    full_after ends c.in-Some.ensures c.in-Some-before_in.ensures _ c.is_full.ensures c.if-is_full.true

pub is_full-requires-2 : goal.is_full-requires-2
is_full-requires-2 c =
    let ends = ends_of _ _ _ _ c.requires c.if-count-u.false c.if-count-v.false c.lesser-p.ensures c.greater-q.ensures c.ring_of-ring.ensures.result_value in
    in_table c.requires _ (before_lt ends c.in-Some.ensures c.in-Some-before_in.ensures)

pub returns-then-is_full-2 : goal.returns-then-is_full-2
returns-then-is_full-2 c =
    let ends = ends_of _ _ _ _ c.requires c.if-count-u.false c.if-count-v.false c.lesser-p.ensures c.greater-q.ensures c.ring_of-ring.ensures.result_value in
    full_before ends c.in-Some.ensures c.in-Some-before_in.ensures _ c.is_full.ensures c.if-is_full.false _ c.is_full-2.ensures c.if-is_full-2.true

pub returns : goal.returns
returns c =
    let ends = ends_of _ _ _ _ c.requires c.if-count-u.false c.if-count-v.false c.lesser-p.ensures c.greater-q.ensures c.ring_of-ring.ensures.result_value in
    both_free ends c.in-Some.ensures c.in-Some-before_in.ensures _ c.is_full.ensures c.if-is_full.false _ c.is_full-2.ensures c.if-is_full-2.false
