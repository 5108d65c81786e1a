-- `mark_next` meets its contract. Assumes nothing.
use native.Mathlib.Omega.{arith}
use Rattle.move_touched.proofs.Judging.{judging_none, judging_skip, judging_more, judging_end}
use Rattle.move_touched.proofs.marks.mark_next.Goals as goal

pub loop-t-init : goal.loop-t-init
loop-t-init c = record { bound = omega arith; judging = judging_none c.requires.both_levels.ready c.requires.next_unmarked }

pub loop-t-preserved-then-skip-eq0 : goal.loop-t-preserved-then-skip-eq0
loop-t-preserved-then-skip-eq0 c =
    record { bound = omega arith; judging = judging_more c.requires.both_levels.ready c.loop-t.invariant.judging c.loop-t-test.true c.mark_by.ensures }

pub loop-t-preserved : goal.loop-t-preserved
loop-t-preserved c =
    let k = c.clear_ahead-skip.ensures.upper_bound in
    record { bound = omega arith; judging = judging_skip c.requires.both_levels.ready c.loop-t.invariant.judging _ (omega arith) c.clear_ahead-skip.ensures.none_from }

pub returns : goal.returns
returns c = judging_end c.requires.both_levels.ready c.loop-t.invariant.judging (omega arith)
