-- `judge_flip` meets its contract. Assumes nothing.
use Rattle.rings.proofs.Verdicts.{handed_on}
use Rattle.reshape_tables.specs.Calls.{flip_verdict}
use Rattle.reshape_room.proofs.CheckedTables.{passed_check}
use Rattle.reshape_edge.proofs.EdgesJudged.{found, by_check, by_edge, by_last, accepted, cannot_turn, can_turn}
use Rattle.reshape_edge.proofs.judge_flip.Goals as goal

pub returns-in_err-judge : goal.returns-in_err-judge
unfolding flip_verdict
returns-in_err-judge c = handed_on c.from_residual.ensures (by_check _ _ _ _ _ _ c.in_err-judge.ensures)

pub judge_edge-requires : goal.judge_edge-requires
judge_edge-requires c = passed_check _ _ _ c.in_ok-judge.ensures

pub returns-in_err-edge : goal.returns-in_err-edge
unfolding flip_verdict
returns-in_err-edge c = handed_on c.from_residual-in_err-edge.ensures (by_edge _ _ _ _ _ _ c.in_ok-judge.ensures c.in_err-edge.ensures)

pub cannot_flip-requires : goal.cannot_flip-requires
cannot_flip-requires c = found _ _ _ _ (passed_check _ _ _ c.in_ok-judge.ensures) c.in_ok-edge.ensures

pub returns-then-cannot_flip : goal.returns-then-cannot_flip
unfolding flip_verdict
returns-then-cannot_flip c =
    by_last _ _ _ _ _ _ c.in_ok-judge.ensures c.in_ok-edge.ensures (cannot_turn _ _ _ _ _ c.in_ok-edge.ensures c.cannot_flip.ensures c.if-cannot_flip.true)

pub returns : goal.returns
unfolding flip_verdict
returns c =
    accepted _ _ _ _ _ _ c.in_ok-judge.ensures c.in_ok-edge.ensures (can_turn _ _ _ _ _ c.in_ok-edge.ensures c.cannot_flip.ensures c.if-cannot_flip.false)
