-- `points_length` meets its contract. Assumes nothing.
use borrow.Author.Rules.{rules}
use native.Mathlib.Omega.{arith}
use Rattle.mesh.proofs.Lists.{sum_bounded}
use Rattle.off_length.specs.Length.{point_length, points_length}
use Rattle.off_length.proofs.Summed.{summed, sum_fits, point_most}
use Rattle.off_length.proofs.points_length.Goals as goal

pub sum-requires-clause-fits : goal.sum-requires-clause-fits
sum-requires-clause-fits c =
    let ps = c.args.positions.now in
    sum_fits (point_length ps) _ _ c.map.ensures.source c.map.ensures.closure (λ x r q k. search rules) _
    (omega (arith, sum_bounded (point_length ps) 66 c.args.count (λ v h. point_most ps v)))

pub returns : goal.returns
unfolding points_length
returns c =
    let ps = c.args.positions.now in
    let e = summed (point_length ps) _ _ c.map.ensures.source c.map.ensures.closure (λ x r q k. search rules) _ c.sum.ensures.ran in
    record { value = e; upper_bound = omega (arith, e, sum_bounded (point_length ps) 66 c.args.count (λ v h. point_most ps v)) }
