-- `corners_length` meets its contract. Assumes nothing.
use borrow.Author.Rules.{rules}
use native.Mathlib.Omega.{arith}
use Rattle.mesh.proofs.Lists.{sum_bounded}
use Rattle.off_length.specs.Length.{corners_length}
use Rattle.off_length.proofs.Summed.{summed, sum_fits, corner_digits, corner_most}
use Rattle.off_length.proofs.corners_length.Goals as goal

pub sum-requires-clause-fits : goal.sum-requires-clause-fits
sum-requires-clause-fits c =
    let vs = c.args.valences.now in
    sum_fits (corner_digits vs) _ _ c.map.ensures.source c.map.ensures.closure (λ x r q k. search rules) _
    (omega (arith, sum_bounded (corner_digits vs) 1310720 c.args.count (λ v h. corner_most vs (λ u. omega (arith, c.type_inv.valences u)) v)))

pub returns : goal.returns
unfolding corners_length
returns c =
    let vs = c.args.valences.now in
    let e = summed (corner_digits vs) _ _ c.map.ensures.source c.map.ensures.closure (λ x r q k. search rules) _ c.sum.ensures.ran in
    record { value = e; upper_bound = omega (arith, e, sum_bounded (corner_digits vs) 1310720 c.args.count (λ v h. corner_most vs (λ u. omega (arith, c.type_inv.valences u)) v)) }
