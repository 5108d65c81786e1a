use Rattle.off_layout.specs.Judging.{Walked}
use Rattle.off_layout.proofs.past_lines.Given as goal

abbrev pub invariant-loop-line : goal.invariant-loop-line
invariant-loop-line g l = goal.F-pre g l.past l.at × Walked (goal.F-post g l.past) l.from l.line l.at
