-- `count_below` meets its contract. Assumes nothing.
use Prim.Native.Nat.{ℕ, ◌+◌}
use mathlib.Core.Path.{◌≡◌, refl, sym, ◌∙◌}
use mathlib.Core.Bool.{Bool, true, false, cond}
use mathlib.Core.List.{List}
use native.Mathlib.Nat.{zero-add}
use native.Mathlib.Omega.{arith}
use lib.Dec.{ltb}
use borrow.Author.Rules.{rules}
use borrow.Author.Tests.{tests}
use Rattle.std.specs.List.{count_by}
use Rattle.std.proofs.lemmas.Iterator.{YieldsList-from_slice, YieldsList-from_map}
use Rattle.std.proofs.lemmas.Iterator.Consumers.{sum_by_from_yields_List, fits_by_from_yields_list}
use Rattle.std.proofs.lemmas.List.Recursion.{is_count_by}
use Rattle.std.proofs.lemmas.List.Sums.{count_by-le-length}
use Rattle.mesh.specs.Search.{bit}
use Rattle.mesh.specs.Numbering.{below}
use Rattle.loop_sweep.proofs.numbers.count_below.Goals as goal

bit_more : (b : Bool) (n : ℕ) → bit b + n ≡ cond b (1 + n) n
bit_more true n = refl
bit_more false n = zero-add n

below_counted : (q : ℕ) (l : List ℕ) → below q l ≡ count_by (λ a. ltb a q) l
below_counted q l = is_count_by (below q) (λ a. ltb a q) refl (λ a k. bit_more (ltb a q) (below q k)) l

pub sum-requires-clause-fits : goal.sum-requires-clause-fits
sum-requires-clause-fits c =
    fits_by_from_yields_list (λ a. cond (ltb a c.args.q) 1 0) c.args.ring.now c.map.result _
    (YieldsList-from_map _ (λ a. cond (ltb a c.args.q) 1 0) (YieldsList-from_slice c.args.ring.now cc) c.map.ensures.closure (λ x r q k. search (rules, tests)))
    (omega (arith, count_by-le-length (λ a. ltb a c.args.q) c.args.ring.now, c.iter.ensures.bound))

pub returns : goal.returns
returns c =
    let e =
    sum_by_from_yields_List (λ a. cond (ltb a c.args.q) 1 0) c.args.ring.now c.map.result c.sum.result c.sum.ensures.ran
    (YieldsList-from_map _ (λ a. cond (ltb a c.args.q) 1 0) (YieldsList-from_slice c.args.ring.now cc) c.map.ensures.closure (λ x r q k. search (rules, tests))) in
    record { value = e ∙ sym (below_counted c.args.q c.args.ring.now); upper_bound = omega (arith, e, count_by-le-length (λ a. ltb a c.args.q) c.args.ring.now) }
