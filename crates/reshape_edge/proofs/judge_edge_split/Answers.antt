-- `judge_edge_split` meets its contract. Assumes nothing.
use Rattle.rings.proofs.Verdicts.{handed_on}
use Rattle.reshape_tables.specs.Calls.{split_edge_verdict}
use Rattle.reshape_room.proofs.CheckedTables.{passed_check}
use Rattle.reshape_edge.proofs.EdgesJudged.{by_check, by_edge, by_last, accepted}
use Rattle.reshape_edge.proofs.judge_edge_split.Goals as goal

pub returns-in_err-judge : goal.returns-in_err-judge
unfolding split_edge_verdict
returns-in_err-judge c = handed_on c.from_residual.ensures (by_check _ _ _ _ _ _ c.in_err-judge.ensures)

pub judge_edge-requires : goal.judge_edge-requires
judge_edge-requires c = passed_check _ _ _ c.in_ok-judge.ensures

pub returns-in_err-edge : goal.returns-in_err-edge
unfolding split_edge_verdict
returns-in_err-edge c = handed_on c.from_residual-in_err-edge.ensures (by_edge _ _ _ _ _ _ c.in_ok-judge.ensures c.in_err-edge.ensures)

pub returns-in_err-judge_new : goal.returns-in_err-judge_new
unfolding split_edge_verdict
returns-in_err-judge_new c =
    handed_on c.from_residual-in_err-judge_new.ensures (by_last _ _ _ _ _ _ c.in_ok-judge.ensures c.in_ok-edge.ensures c.in_err-judge_new.ensures)

pub returns : goal.returns
unfolding split_edge_verdict
returns c = accepted _ _ _ _ _ _ c.in_ok-judge.ensures c.in_ok-edge.ensures c.in_ok-judge_new.ensures
