-- `closes` meets its contract: so far the walk was not back. Assumes nothing.
use native.Mathlib.Omega.{arith}
use Rattle.off_walk.proofs.Following.{walk_none, walk_more, closes_empty, closes_early, closes_last}
use Rattle.off_walk.proofs.closes.Goals as goal

pub returns-then-n-eq0 : goal.returns-then-n-eq0
returns-then-n-eq0 c = closes_empty _ _ _ c.if-n-eq0.true

pub loop-k-init : goal.loop-k-init
loop-k-init c = walk_none _ _ _ _ _ c.smallest_of-start.ensures c.follow-x.ensures

pub returns-then-x-start : goal.returns-then-x-start
returns-then-x-start c = closes_early _ _ _ c.loop-k.invariant (omega arith) c.if-x-start.true

pub loop-k-preserved : goal.loop-k-preserved
loop-k-preserved c = walk_more _ _ _ c.loop-k.invariant c.if-x-start.false c.follow-x-in-loop-k.ensures (omega arith)

pub returns : goal.returns
returns c = closes_last _ _ _ c.loop-k.invariant (omega arith)
