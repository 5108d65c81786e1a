-- `row_agrees` meets its contract. Assumes nothing.
use native.Mathlib.Omega.{arith}
use Rattle.stack_agreement.proofs.Telling.{walked_none, walked_more, walked_all}
use Rattle.stack_agreement.proofs.rows.row_agrees.Goals as goal

pub loop-i-init : goal.loop-i-init
loop-i-init c = walked_none

pub loop-i-preserved : goal.loop-i-preserved
loop-i-preserved c =
    walked_more c.loop-i.invariant c.loop-i-test.true (c.is_edge_vertex.ensures c.if-not-is_edge_vertex.false)

pub returns : goal.returns
returns c =
    λ e. walked_all c.loop-i.invariant c.requires.row_nonzero (omega arith) (c.is_edge_vertex-2.ensures e)
