-- `map::count` meets its contract. Assumes nothing.
use mathlib.Core.Path.{◌∙◌}
use lib.ListN.{get_or, take}
use lib.Count.{ones, ones-le}
use borrow.Author.Rules.{rules}
use native.Mathlib.Omega.{arith}
use Rattle.std.proofs.lemmas.Iterator.{YieldsList-from_slice, YieldsList-from_map}
use Rattle.std.proofs.lemmas.Iterator.Consumers.{YieldsList-at}
use Rattle.mesh.proofs.Lists.{sum_bounded}
use Rattle.mesh.proofs.Searches.{sum_found, sum_fits}
use Rattle.move_map.specs.Map.{word_count, ones_in}
use Rattle.move_map.proofs.Sets.{ones_members}
use Rattle.move_map.proofs.count.Goals as goal

pub sum-requires-clause-fits : goal.sum-requires-clause-fits
sum-requires-clause-fits c =
    sum_fits ones c.args.map.now c.words_for.result (omega arith) c.map.result
    (YieldsList-from_map _ ones (YieldsList-at c.map.ensures.source (YieldsList-from_slice (take c.words_for.result c.args.map.now) c.iter.ensures.rest)) c.map.ensures.closure (λ x r q k. search rules)) _
    (omega (arith, sum_bounded (λ i. ones (get_or c.args.map.now i 0)) 32 c.words_for.result (λ i k. ones-le 32 _ (c.type_inv.map i).fits)))

pub returns : goal.returns
unfolding ones_in
returns c =
    let s =
    rw c.words_for.ensures at
    (sum_found ones c.args.map.now c.words_for.result (omega arith) c.map.result
    (YieldsList-from_map _ ones (YieldsList-at c.map.ensures.source (YieldsList-from_slice (take c.words_for.result c.args.map.now) c.iter.ensures.rest)) c.map.ensures.closure (λ x r q k. search rules)) _ c.sum.ensures.ran) in
    record { value = s; value_2 = s ∙ ones_members c.args.map.now (record { small = λ w. (c.type_inv.map w).fits }) (word_count c.args.total) }
