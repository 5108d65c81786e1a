-- `rows_length` meets its contract. Assumes nothing.
use mathlib.Core.Path.{◌≡◌, ◌∙◌}
use Prim.Native.Nat.{◌+◌, ◌*◌}
use borrow.Author.Rules.{rules}
use native.Mathlib.Omega.{arith}
use lib.ListN.{take}
use Rattle.std.proofs.lemmas.Iterator.{YieldsList-from_slice, YieldsList-from_map}
use Rattle.std.proofs.lemmas.Iterator.Consumers.{sum_by_from_yields_List, fits_by_from_yields_list}
use Rattle.file_writing.specs.Write.{rows_length}
use Rattle.file_writing.proofs.RowsWritten.{rows_sum, length_most}
use Rattle.file_writing.proofs.rows_length.Goals as goal

pub sum-requires-clause-fits : goal.sum-requires-clause-fits
sum-requires-clause-fits c =
    let vs = c.args.valences.now in
    fits_by_from_yields_list (λ k. 20 + 2 * k) (take c.args.count vs) c.map.result _
    (YieldsList-from_map _ (λ k. 20 + 2 * k) (YieldsList-from_slice (take c.args.count vs) cc) c.map.ensures.closure (λ x r q k. search rules))
    (omega (arith, rows_sum vs c.args.count c.requires.count_in_bounds, length_most vs (λ i. omega (arith, c.type_inv.valences i)) c.args.count))

pub returns : goal.returns
returns c =
    let vs = c.args.valences.now in
    let e : c.sum.result ≡ rows_length vs c.args.count =
    sum_by_from_yields_List (λ k. 20 + 2 * k) (take c.args.count vs) c.map.result _ c.sum.ensures.ran
    (YieldsList-from_map _ (λ k. 20 + 2 * k) (YieldsList-from_slice (take c.args.count vs) cc) c.map.ensures.closure (λ x r q k. search rules))
    ∙ rows_sum vs c.args.count c.requires.count_in_bounds in
    record { value = e; upper_bound = omega (arith, length_most vs (λ i. omega (arith, c.type_inv.valences i)) c.args.count) }
