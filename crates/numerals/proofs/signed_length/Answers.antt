-- `signed_length` meets its contract. Assumes nothing.
use native.Mathlib.Omega.{arith}
use mathlib.Core.Path.{ap}
use lib.ListN.{length}
use Prim.Native.Nat.{◌-◌}
use Rattle.numerals.proofs.Digits.{number_length}
use Rattle.numerals.proofs.Writing.{signed_low, signed_high}
use Rattle.numerals.proofs.signed_length.Goals as goal

pub returns-then-bits-lt-LEAST_NEGATIVE-clause-value : goal.returns-then-bits-lt-LEAST_NEGATIVE-clause-value
returns-then-bits-lt-LEAST_NEGATIVE-clause-value c =
    let n = c.args.bits in
    let e = ap length (signed_low n 0 c.if-bits-lt-LEAST_NEGATIVE.true) in
    omega (arith, c.digit_count.ensures.value, number_length n 0)

pub returns-else-bits-lt-LEAST_NEGATIVE-clause-value : goal.returns-else-bits-lt-LEAST_NEGATIVE-clause-value
returns-else-bits-lt-LEAST_NEGATIVE-clause-value c =
    let n = c.args.bits in
    let e = ap length (signed_high n 0 c.if-bits-lt-LEAST_NEGATIVE.false c.requires) in
    omega (arith, c.digit_count-else-bits-lt-LEAST_NEGATIVE.ensures.value, number_length (4294967296 - n) 0)
