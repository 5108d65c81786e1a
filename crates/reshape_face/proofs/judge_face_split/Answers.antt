-- `judge_face_split` meets its contract. Assumes nothing.
use Rattle.rings.proofs.Verdicts.{handed_on}
use Rattle.reshape_room.proofs.CheckedTables.{passed_check}
use Rattle.reshape_face.proofs.FacesJudged.{by_check, by_face, by_last, accepted}
use Rattle.reshape_face.proofs.judge_face_split.Goals as goal

pub returns-in_err-judge : goal.returns-in_err-judge
returns-in_err-judge c = handed_on c.from_residual.ensures (by_check _ _ _ _ _ _ _ c.in_err-judge.ensures)

pub judge_face-requires : goal.judge_face-requires
judge_face-requires c = passed_check _ _ _ c.in_ok-judge.ensures

pub returns-in_err-judge_face : goal.returns-in_err-judge_face
returns-in_err-judge_face c =
    handed_on c.from_residual-in_err-judge_face.ensures (by_face _ _ _ _ _ _ c.in_ok-judge.ensures _ c.in_err-judge_face.ensures)

pub returns-in_err-judge_new : goal.returns-in_err-judge_new
returns-in_err-judge_new c =
    handed_on c.from_residual-in_err-judge_new.ensures (by_last _ _ _ _ _ _ c.in_ok-judge.ensures c.in_ok-judge_face.ensures _ c.in_err-judge_new.ensures)

pub returns : goal.returns
returns c = accepted _ _ _ _ _ _ c.in_ok-judge.ensures c.in_ok-judge_face.ensures c.in_ok-judge_new.ensures _ c.from_smallest.ensures
