-- `judge_positions` meets its contract. Assumes nothing.
use mathlib.Core.Path.{sym}
use Rattle.rings.proofs.Verdicts.{at_hit, at_pass}
use Rattle.check_mesh.proofs.judge_positions.Goals as goal

pub returns-then-far-count : goal.returns-then-far-count
returns-then-far-count c = at_hit _ _ _ _ _ c.first_beyond-far.ensures c.if-far-count.true

pub returns : goal.returns
returns c = sym (at_pass _ _ _ _ _ c.first_beyond-far.ensures c.if-far-count.false)
