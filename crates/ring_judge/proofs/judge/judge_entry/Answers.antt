-- `judge_entry` meets its contract. Assumes nothing.
use Rattle.ring_judge.proofs.Judged.{called, entry_refused, entry_unknown, entry_self, entry_there, entry_pass}
use Rattle.rings.proofs.Verdicts.{handed_on}
use Rattle.ring_judge.proofs.judge.judge_entry.Goals as goal
use Rattle.ring_judge.proofs.judge.judge_entry.Goals.{then-x-v-via-then-x-v, then-x-v-via-else-x-v+then-is_there}

pub returns-then-count-x : goal.returns-then-count-x
returns-then-count-x c = entry_unknown _ _ _ c.in_ok-judge_call.ensures _ c.if-count-x.true

pub returns-then-x-v : goal.returns-then-x-v
returns-then-x-v c =
    elim c.then-x-v.branch [
      | then-x-v-via-then-x-v w ↦ entry_self _ _ _ c.in_ok-judge_call.ensures _ c.if-count-x.false w.if-x-v.true
      | then-x-v-via-else-x-v+then-is_there w ↦
          entry_there _ _ _ c.in_ok-judge_call.ensures _ c.if-count-x.false w.if-x-v.false _ w.ring_of.ensures.result_value _ w.is_there.ensures w.if-is_there.true
    ]

pub ring_of-requires : goal.ring_of-requires
ring_of-requires c = (called _ _ _ c.in_ok-judge_call.ensures).row

pub returns-in_err-judge_call : goal.returns-in_err-judge_call
returns-in_err-judge_call c = handed_on c.from_residual.ensures (entry_refused _ _ _ _ _ c.in_err-judge_call.ensures)

pub returns : goal.returns
returns c =
    entry_pass _ _ _ c.in_ok-judge_call.ensures _ c.if-count-x.false c.if-x-v.false _ c.ring_of.ensures.result_value _ c.is_there.ensures
    c.if-is_there.false
