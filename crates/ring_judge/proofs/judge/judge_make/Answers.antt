-- `judge_make` meets its contract. Assumes nothing.
use Rattle.ring_judge.proofs.Judged.{make_refused, make_full, make_unknown, make_taken, make_pass}
use Rattle.rings.proofs.Verdicts.{handed_on}
use Rattle.ring_judge.proofs.judge.judge_make.Goals as goal

pub returns-in_err-judge_tables : goal.returns-in_err-judge_tables
returns-in_err-judge_tables c = handed_on c.from_residual.ensures (make_refused _ _ _ _ _ c.in_err-judge_tables.ensures)

pub returns-then-list-gt-MOST_VALENCE : goal.returns-then-list-gt-MOST_VALENCE
returns-then-list-gt-MOST_VALENCE c =
    make_full _ _ _ c.in_ok-judge_tables.ensures _ c.if-list-gt-MOST_VALENCE.true

pub returns-then-i-list : goal.returns-then-i-list
returns-then-i-list c =
    make_unknown _ _ _ c.in_ok-judge_tables.ensures _ c.if-list-gt-MOST_VALENCE.false _ c.first_unknown-i.ensures c.if-i-list.true

pub returns-then-has_bad : goal.returns-then-has_bad
returns-then-has_bad c =
    make_taken _ _ _ c.in_ok-judge_tables.ensures _ c.if-list-gt-MOST_VALENCE.false _ c.first_unknown-i.ensures c.if-i-list.false _ c.has_bad.ensures
    c.if-has_bad.true

pub returns : goal.returns
returns c =
    make_pass _ _ _ c.in_ok-judge_tables.ensures _ c.if-list-gt-MOST_VALENCE.false _ c.first_unknown-i.ensures c.if-i-list.false _ c.has_bad.ensures c.if-has_bad.false
