-- `past_lines` meets its contract: so many steps lead to the place where the next line begins. Assumes nothing.
use native.Mathlib.Numerals.{add-one}
use Rattle.off_layout.specs.Judging.Walked.{none, more}
use Rattle.off_layout.proofs.past_lines.Goals as goal

pub loop-line-init : goal.loop-line-init
loop-line-init g c = (c.requires.first, none)

pub loop-line-preserved : goal.loop-line-preserved
loop-line-preserved g c =
    (c.requires.more _ _ c.loop-line.invariant.0 c.in-Some.ensures, rw (add-one c.loop-line.line) (more c.loop-line.invariant.1 c.in-Some.ensures))
