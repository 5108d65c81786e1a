-- `valence_sum` meets its contract. Assumes nothing.
use native.Mathlib.Omega.{arith}
use lib.ListN.{get_or, take}
use borrow.Author.Rules.{rules}
use Rattle.std.proofs.lemmas.Iterator.{YieldsList-from_slice, YieldsList-from_map}
use Rattle.std.proofs.lemmas.Iterator.Consumers.{YieldsList-at}
use Rattle.mesh.proofs.Lists.{sum_bounded}
use Rattle.mesh.proofs.Searches.{sum_found, sum_fits}
use Rattle.check_mesh.proofs.valence_sum.Goals as goal

pub sum-requires-clause-fits : goal.sum-requires-clause-fits
sum-requires-clause-fits c =
    sum_fits (λ x. x) c.args.valences.now c.args.count c.requires.count_in_bounds c.map.result
    (YieldsList-from_map _ (λ x. x) (YieldsList-at c.map.ensures.source (YieldsList-from_slice (take c.args.count c.args.valences.now) c.iter.ensures.rest)) c.map.ensures.closure (λ x r q k. search rules)) _
    (omega (arith, sum_bounded (λ i. get_or c.args.valences.now i 0) 65535 c.args.count (λ i k. omega (arith, c.type_inv.valences i))))

pub returns : goal.returns
returns c =
    let s =
    sum_found (λ x. x) c.args.valences.now c.args.count c.requires.count_in_bounds c.map.result
    (YieldsList-from_map _ (λ x. x) (YieldsList-at c.map.ensures.source (YieldsList-from_slice (take c.args.count c.args.valences.now) c.iter.ensures.rest)) c.map.ensures.closure (λ x r q k. search rules)) _ c.sum.ensures.ran in
    record {
      value = s;
      upper_bound = omega (arith, s, sum_bounded (λ i. get_or c.args.valences.now i 0) 65535 c.args.count (λ i k. omega (arith, c.type_inv.valences i)));
    }
