-- `refresh_levels` meets its contract. Assumes nothing.
use mathlib.Core.Path.{◌≡◌, refl}
use native.Mathlib.Omega.{arith}
use Rattle.move_refresh.proofs.Raised.{raised_none, raised_begins, raised_small, next_requires, raised_more, raised_end}
use Rattle.move_refresh.proofs.stack.refresh_levels.Goals as goal

pub loop-init : goal.loop-init
loop-init c =
    let r = raised_none _ _ _ _ _ c.requires.stack_ready.counted _ c.ground-below.ensures in
    record { raised = r; begins = raised_begins c.requires.stack_ready _ r (omega arith) }

pub above-next-requires : goal.above-next-requires
above-next-requires c = raised_small c.requires.stack_ready _ c.loop.invariant.raised c.loop-test.true

pub refresh_next-requires : goal.refresh_next-requires
refresh_next-requires c =
    let t = next_requires c.requires.stack_ready _ c.loop.invariant.raised c.loop-test.true c.requires.map_ready _ c.above-next.ensures in
    record { above_value = t.0; in_map = t.1.0; levels = t.1.1.0; next_rings = t.1.1.1.0; next_unmarked = t.1.1.1.1 }

pub loop-preserved : goal.loop-preserved
loop-preserved c =
    let r = raised_more c.requires.stack_ready _ c.loop.invariant.raised c.loop-test.true _ c.refresh_next.ensures.map_after _ c.refresh_next.ensures.positions_after
    c.refresh_next.auto.map _ refl _ c.above-next.ensures in
    record { raised = r; begins = raised_begins c.requires.stack_ready _ r (omega arith) }

pub returns : goal.returns
returns c =
    let k : c.loop.counter ≡ c.args.levels = omega arith in
    let t = raised_end c.requires.stack_ready _ c.loop.invariant.raised k in
    record { touched_marked = t.0; positions_after = t.1 }
