-- `past_unit` meets its contract. Assumes nothing.
use mathlib.Core.Path.{sym, ◌∙◌}
use Prim.Native.Nat.{◌+◌}
use native.Mathlib.Omega.{arith}
use Rattle.std.proofs.lemmas.Bool.Decides.{nat_tests}
use Rattle.off_numbers.specs.Text.{minus_at, is_unit, after_unit, number_at}
use Rattle.off_units.specs.Past.{past_unit}
use Rattle.off_numbers.proofs.Scanning.{byte_within}
use Rattle.off_units.proofs.past_unit.Goals as goal

pub number_at-requires-clause-at_in_bounds : goal.number_at-requires-clause-at_in_bounds
number_at-requires-clause-at_in_bounds c =
    omega (arith, byte_within _ (c.args.at + 0) 45 (sym c.byte_on.ensures.value ∙ c.if-byte_on-eq-MINUS.true) (omega arith))

pub returns-then-byte_on-eq-MINUS : goal.returns-then-byte_on-eq-MINUS
unfolding past_unit is_unit after_unit minus_at number_at
returns-then-byte_on-eq-MINUS c = grind (arith, nat_tests)

pub returns-else-byte_on-eq-MINUS : goal.returns-else-byte_on-eq-MINUS
unfolding past_unit is_unit after_unit minus_at number_at
returns-else-byte_on-eq-MINUS c = grind (arith, nat_tests)
