-- `stack_count` meets its contract. Assumes nothing.
use Prim.Native.Nat.{suc, ◌+◌}
use mathlib.Core.Path.{◌≡◌, ap, ◌∙◌}
use native.Mathlib.Omega.{arith}
use Rattle.steps.specs.Sizes.{closed_sizes}
use Rattle.stack_judge.specs.Stack.{level_start, stack_count}
use Rattle.stack_judge.proofs.Sizes.{few_closed, two_thirds, start_small, sized_none, sized_more, sized_small}
use Rattle.stack_judge.proofs.stack_count.Goals as goal

pub loop-init : goal.loop-init
loop-init c = sized_none c.ground-level.ensures

pub above-level-requires : goal.above-level-requires
above-level-requires c = sized_small (few_closed c.requires.count_le_most_count c.requires.edges_le_edge_bound) c.loop.invariant (omega arith)

pub loop-preserved : goal.loop-preserved
loop-preserved c = sized_more c.loop.invariant c.above-level.ensures

pub returns : goal.returns
returns c = absurd (omega arith)

pub returns-2 : goal.returns-2
unfolding stack_count
returns-2 c =
    let a = c.args in
    let z = sized_more c.loop.invariant c.above-level.ensures in
    let e : c.loop.counter + 1 ≡ suc a.levels = omega arith in
    let s = start_small (closed_sizes a.count a.edges) (c.loop.counter + 1) (two_thirds a.edges) (omega arith) in
    record { value = z.start ∙ ap (level_start (closed_sizes a.count a.edges)) e; upper_bound = omega (arith, z.start) }
