-- `first_strange_next` meets its contract. Assumes nothing.
use mathlib.Core.Path.{sym}
use native.Mathlib.Omega.{arith}
use Rattle.mesh.proofs.First.{first_end}
use Rattle.stack_strange.proofs.NextRows.{has_old}
use Rattle.stack_strange.proofs.NextNumbers.{clear_to, clear_here, clear_all, first_below, start_zero, start_next, start_more, start_most, start_within, start_all}
use Rattle.stack_strange.proofs.next_level.first_strange_next.Goals as goal

pub returns-then-old-count : goal.returns-then-old-count
returns-then-old-count c = first_below _ _ _ c.first_strange_old-old.ensures c.if-old-count.true (omega arith)

pub loop-p-init : goal.loop-p-init
loop-p-init c =
    record { start = sym (start_zero c.requires.ready); clear = clear_here (clear_to _ _ c.first_strange_old-old.ensures c.if-old-count.false) }

pub overflow_add-end : goal.overflow_add-end
overflow_add-end c =
    omega (arith, start_within c.requires.ready c.loop-p-test.true _ c.loop-p.invariant.start _ c.ring_of.ensures.result_value _ c.count_over.ensures.value)

pub first_strange_edge-x-requires-clause-has_old : goal.first_strange_edge-x-requires-clause-has_old
first_strange_edge-x-requires-clause-has_old c =
    has_old c.requires.ready _ _ (omega arith) (clear_to _ _ c.first_strange_old-old.ensures c.if-old-count.false)

pub first_strange_edge-x-requires-clause-end_value : goal.first_strange_edge-x-requires-clause-end_value
first_strange_edge-x-requires-clause-end_value c =
    start_next c.requires.ready c.loop-p-test.true _ c.loop-p.invariant.start _ c.ring_of.ensures.result_value _ c.count_over.ensures.value

pub first_strange_edge-x-requires-clause-start_value_2 : goal.first_strange_edge-x-requires-clause-start_value_2
first_strange_edge-x-requires-clause-start_value_2 c = clear_all c.loop-p.invariant.clear

pub overflow_add-count : goal.overflow_add-count
overflow_add-count c =
    omega (arith, start_within c.requires.ready c.loop-p-test.true _ c.loop-p.invariant.start _ c.ring_of.ensures.result_value _ c.count_over.ensures.value)

pub returns-then-x-count : goal.returns-then-x-count
returns-then-x-count c =
    let m = start_within c.requires.ready c.loop-p-test.true _ c.loop-p.invariant.start _ c.ring_of.ensures.result_value _ c.count_over.ensures.value in
    first_below _ _ _ c.first_strange_edge-x.ensures c.if-x-count.true (omega arith)

pub loop-p-preserved : goal.loop-p-preserved
loop-p-preserved c = record {
  start = start_more c.requires.ready c.loop-p-test.true _ c.loop-p.invariant.start _ c.ring_of.ensures.result_value _ c.count_over.ensures.value;
  clear = clear_to _ _ c.first_strange_edge-x.ensures c.if-x-count.false;
}

pub overflow_add-result : goal.overflow_add-result
overflow_add-result c = omega (arith, start_most c.requires.ready c.loop-p.p c.loop-p.auto.p-end c.loop-p.invariant.start)

pub returns : goal.returns
returns c =
    let e = start_all c.requires.ready c.loop-p.p c.loop-p.auto.p-end (omega arith) c.loop-p.invariant.start in
    first_end c.loop-p.invariant.clear (omega arith) (omega arith)
