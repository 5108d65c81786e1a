-- `first_too_large` meets its contract. Assumes nothing.
use Prim.Native.Nat.{◌+◌}
use mathlib.Core.Path.{◌≡◌, ◌∙◌}
use native.Mathlib.Omega.{arith}
use Rattle.mesh.proofs.First.{clear_none, clear_more, first_is, first_end}
use Rattle.stack_judge.proofs.Sizes.{few_closed, sized_none, sized_more, sized_small}
use Rattle.stack_judge.proofs.Judged.{large_here, fits_here}
use Rattle.stack_judge.proofs.first_too_large.Goals as goal
use Rattle.stack_judge.proofs.first_too_large.Goals.{else-loop-k-test, then-loop-k-test+else-level-gt-MOST_VERTICES+else-k-levels}

pub loop-k-init : goal.loop-k-init
loop-k-init c = record { sized = sized_none c.ground-level.ensures; small = clear_none }

pub returns-then-level-gt-MOST_VERTICES : goal.returns-then-level-gt-MOST_VERTICES
returns-then-level-gt-MOST_VERTICES c = let i = c.loop-k.invariant in first_is i.small (omega arith) (large_here i.sized c.if-level-gt-MOST_VERTICES.true)

pub above-level-requires : goal.above-level-requires
above-level-requires c =
    sized_small (few_closed c.requires.count_le_most_count c.requires.edges_le_edge_bound) c.loop-k.invariant.sized (omega arith)

pub loop-k-preserved : goal.loop-k-preserved
loop-k-preserved c =
    let i = c.loop-k.invariant in
    record { sized = sized_more i.sized c.above-level.ensures; small = clear_more i.small (fits_here i.sized c.if-level-gt-MOST_VERTICES.false) }

pub returns : goal.returns
returns c =
    elim c.loop-k-test.branch [
      | else-loop-k-test w ↦ absurd (omega arith)
      | then-loop-k-test+else-level-gt-MOST_VERTICES+else-k-levels w ↦
          let i = c.loop-k.invariant in
          let e : c.args.levels + 1 ≡ c.loop-k.k + 1 = omega arith in
          e ∙ first_end (clear_more i.small (fits_here i.sized w.if-level-gt-MOST_VERTICES.false)) (omega arith) (omega arith)
    ]
