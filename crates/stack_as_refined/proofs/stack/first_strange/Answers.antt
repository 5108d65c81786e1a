-- `first_strange` meets its contract. Assumes nothing.
use native.Mathlib.Omega.{arith}
use Rattle.stack_judge.proofs.AcceptedStack.{stack_only}
use Rattle.stack_as_refined.proofs.Sweep.{edges_told, reached_none, reached_next, reached_asks, reached_strange, reached_more, reached_end}
use Rattle.stack_as_refined.proofs.stack.first_strange.Goals as goal

pub ground-below-requires : goal.ground-below-requires
ground-below-requires c = edges_told _ _ _ _ (stack_only _ _ _ _ c.requires.positions_value) _ c.requires.edge_count_value

pub loop-init : goal.loop-init
loop-init c =
    reached_none _ _ _ _ (stack_only _ _ _ _ c.requires.positions_value) _ c.requires.edge_count_value _ c.ground-below.ensures

pub first_strange_level-x-requires : goal.first_strange_level-x-requires
first_strange_level-x-requires c =
    let t = reached_asks _ _ _ _ (stack_only _ _ _ _ c.requires.positions_value) c.loop.invariant c.loop-test.true _ c.above-next.ensures in
    record { ready = t.0; end_value = t.1.0; rings_in_bounds = t.1.1 }

pub overflow_add-result : goal.overflow_add-result
overflow_add-result c =
    let n = reached_next _ _ _ _ (stack_only _ _ _ _ c.requires.positions_value) c.loop.invariant c.loop-test.true _ c.above-next.ensures in
    omega arith

pub returns-then-x-next : goal.returns-then-x-next
returns-then-x-next c =
    reached_strange _ _ _ _ (stack_only _ _ _ _ c.requires.positions_value) c.loop.invariant c.loop-test.true _ c.above-next.ensures _
    c.first_strange_level-x.ensures c.if-x-next.true

pub loop-preserved : goal.loop-preserved
loop-preserved c =
    reached_more _ _ _ _ (stack_only _ _ _ _ c.requires.positions_value) c.loop.invariant c.loop-test.true _ c.above-next.ensures _
    c.first_strange_level-x.ensures c.if-x-next.false

pub returns : goal.returns
returns c = reached_end _ _ _ _ (stack_only _ _ _ _ c.requires.positions_value) c.loop.invariant c.loop-test.false
