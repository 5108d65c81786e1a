-- `first_strange_old` meets its contract. Assumes nothing.
use mathlib.Core.Path.{◌≡◌, sym, ◌∙◌}
use native.Mathlib.Omega.{arith}
use Rattle.mesh.proofs.First.{clear_none, clear_more, first_is}
use Rattle.stack_strange.proofs.NextRows.{has_old}
use Rattle.stack_strange.proofs.NextNumbers.{clear_all, start_zero, start_more, start_within}
use Rattle.stack_strange.proofs.next_level.first_strange_old.Goals as goal

pub loop-p-init : goal.loop-p-init
loop-p-init c = record { start = sym (start_zero c.requires.ready); clear = clear_none }

pub is_old_strange-requires-clause-has_old : goal.is_old_strange-requires-clause-has_old
is_old_strange-requires-clause-has_old c = has_old c.requires.ready _ _ (omega arith) c.loop-p.invariant.clear

pub returns-then-is_old_strange : goal.returns-then-is_old_strange
returns-then-is_old_strange c =
    first_is c.loop-p.invariant.clear c.loop-p-test.true (sym c.is_old_strange.ensures ∙ c.if-is_old_strange.true)

pub overflow_add-start : goal.overflow_add-start
overflow_add-start c =
    omega (arith, start_within c.requires.ready c.loop-p-test.true _ c.loop-p.invariant.start _ c.ring_of.ensures.result_value _ c.count_over-start.ensures.value)

pub loop-p-preserved : goal.loop-p-preserved
loop-p-preserved c = record {
  start = start_more c.requires.ready c.loop-p-test.true _ c.loop-p.invariant.start _ c.ring_of.ensures.result_value _ c.count_over-start.ensures.value;
  clear = clear_more c.loop-p.invariant.clear (sym c.is_old_strange.ensures ∙ c.if-is_old_strange.false);
}

pub returns : goal.returns
returns c =
    let e : c.loop-p.p ≡ c.args.count = omega arith in
    clear_all (rw e at c.loop-p.invariant.clear)
