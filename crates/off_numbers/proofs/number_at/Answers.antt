-- `number_at` meets its contract. Assumes nothing.
use mathlib.Core.Path.{sym, ◌∙◌}
use native.Mathlib.Omega.{arith}
use Rattle.std.proofs.lemmas.Bool.Decides.{nat_tests}
use Rattle.off_numbers.specs.Text.{after_at, is_number, number_at}
use Rattle.off_numbers.proofs.Scanning.{byte_within}
use Rattle.off_numbers.proofs.number_at.Goals as goal

pub returns-then-count-eq0 : goal.returns-then-count-eq0
unfolding number_at is_number
returns-then-count-eq0 c = grind (arith, nat_tests)

pub overflow_add-result : goal.overflow_add-result
overflow_add-result c =
    omega (arith, byte_within _ _ _ (sym c.byte_on.ensures.value ∙ c.if-byte_on-last.false) c.requires.last_nonzero)

pub overflow_add-result-2 : goal.overflow_add-result-2
overflow_add-result-2 c =
    omega (arith, byte_within _ _ _ (sym c.byte_on.ensures.value ∙ c.if-byte_on-last.false) c.requires.last_nonzero)

pub returns : goal.returns
unfolding number_at is_number after_at
returns c = grind (arith, nat_tests)
