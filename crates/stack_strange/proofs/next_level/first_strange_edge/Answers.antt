-- `first_strange_edge` meets its contract. Assumes nothing.
use Prim.Native.Nat.{suc}
use mathlib.Core.Path.{◌≡◌, sym, ◌∙◌}
use native.Mathlib.Omega.{arith}
use Rattle.mesh.proofs.First.{first_is}
use Rattle.stack_strange.proofs.NextNumbers.{clear_first, clear_next, clear_all, start_row, start_most, passed_none, passed_left, passed_mid, passed_more}
use Rattle.stack_strange.proofs.next_level.first_strange_edge.Goals as goal

pub loop-x-init : goal.loop-x-init
loop-x-init c = record { passed = passed_none _ _ _; clear = clear_first _ _ c.requires.start_value_2 }

pub place_over-i-requires : goal.place_over-i-requires
place_over-i-requires c =
    passed_left c.requires.ready c.requires.p_lt_count c.requires.start_value c.requires.end_value c.loop-x.invariant.passed c.loop-x-test.true _ c.ring_of-ring.ensures.result_value

pub overflow_add-count : goal.overflow_add-count
overflow_add-count c =
    omega (arith, start_most c.requires.ready (suc c.args.p) c.requires.p_lt_count c.requires.end_value)

pub is_new_strange-requires-clause-x_value : goal.is_new_strange-requires-clause-x_value
is_new_strange-requires-clause-x_value c =
    passed_mid c.requires.ready c.requires.p_lt_count c.requires.start_value c.requires.end_value c.loop-x.invariant.passed c.loop-x-test.true _ c.ring_of-ring.ensures.result_value _
    c.place_over-i.ensures.upper_bound c.place_over-i.ensures.last_bound c.place_over-i.ensures.ring_value

pub overflow_add-result : goal.overflow_add-result
overflow_add-result c =
    omega (arith, start_most c.requires.ready (suc c.args.p) c.requires.p_lt_count c.requires.end_value)

pub returns-then-is_new_strange : goal.returns-then-is_new_strange
returns-then-is_new_strange c =
    first_is c.loop-x.invariant.clear (omega arith) (sym c.is_new_strange.ensures ∙ c.if-is_new_strange.true)

pub loop-x-preserved : goal.loop-x-preserved
loop-x-preserved c = record {
  passed =
      passed_more c.requires.ready c.requires.p_lt_count c.requires.start_value c.requires.end_value c.loop-x.invariant.passed c.loop-x-test.true _ c.ring_of-ring.ensures.result_value _
      c.place_over-i.ensures.upper_bound c.place_over-i.ensures.last_bound c.place_over-i.ensures.ring_value;
  clear = clear_next _ _ c.loop-x.invariant.clear (sym c.is_new_strange.ensures ∙ c.if-is_new_strange.false);
}

pub overflow_add-result-2 : goal.overflow_add-result-2
overflow_add-result-2 c =
    omega (arith, start_most c.requires.ready (suc c.args.p) c.requires.p_lt_count c.requires.end_value)

pub returns : goal.returns
returns c =
    let s = start_row c.requires.ready c.requires.p_lt_count c.requires.start_value c.requires.end_value in
    let e : c.loop-x.x ≡ c.args.end = omega arith in
    clear_all (rw e at c.loop-x.invariant.clear)
