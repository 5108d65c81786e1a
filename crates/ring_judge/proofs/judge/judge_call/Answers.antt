-- `judge_call` meets its contract. Assumes nothing.
use Rattle.ring_judge.proofs.Judged.{tabled, call_refused, call_hit, call_pass}
use Rattle.rings.proofs.Verdicts.{handed_on}
use Rattle.ring_judge.proofs.judge.judge_call.Goals as goal

pub is_improper-requires : goal.is_improper-requires
is_improper-requires c =
    let t = tabled _ _ _ c.in_ok-judge_tables.ensures in
    record { v_lt_count = t.below; room = t.room }

pub returns-then-is_improper : goal.returns-then-is_improper
returns-then-is_improper c = call_hit _ _ _ c.in_ok-judge_tables.ensures _ c.is_improper.ensures c.if-is_improper.true

pub returns-in_err-judge_tables : goal.returns-in_err-judge_tables
returns-in_err-judge_tables c = handed_on c.from_residual.ensures (call_refused _ _ _ _ c.in_err-judge_tables.ensures)

pub returns : goal.returns
returns c = call_pass _ _ _ c.in_ok-judge_tables.ensures _ c.is_improper.ensures c.if-is_improper.false
