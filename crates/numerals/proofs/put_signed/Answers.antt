-- `put_signed` meets its contract. Assumes nothing.
use native.Mathlib.Omega.{arith}
use mathlib.Core.Path.{ap}
use lib.ListN.{length}
use Rattle.numerals.proofs.Writing.{wrote_then, wrote_is, wrote_wide, signed_low, signed_high}
use Rattle.numerals.proofs.put_signed.Goals as goal

pub put_number-requires : goal.put_number-requires
put_number-requires c =
    omega (arith, ap length (signed_low c.args.bits c.args.last c.if-bits-lt-LEAST_NEGATIVE.true))

pub returns-then-bits-lt-LEAST_NEGATIVE : goal.returns-then-bits-lt-LEAST_NEGATIVE
returns-then-bits-lt-LEAST_NEGATIVE c =
    wrote_is (signed_low c.args.bits c.args.last c.if-bits-lt-LEAST_NEGATIVE.true)
    (wrote_wide 22 (omega arith) c.put_number.ensures)

pub put_byte-end-requires : goal.put_byte-end-requires
put_byte-end-requires c =
    omega (arith, ap length (signed_high c.args.bits c.args.last c.if-bits-lt-LEAST_NEGATIVE.false c.requires.bits_bound))

pub put_number-requires-else-bits-lt-LEAST_NEGATIVE : goal.put_number-requires-else-bits-lt-LEAST_NEGATIVE
put_number-requires-else-bits-lt-LEAST_NEGATIVE c =
    omega (arith, ap length (signed_high c.args.bits c.args.last c.if-bits-lt-LEAST_NEGATIVE.false c.requires.bits_bound))

pub returns-else-bits-lt-LEAST_NEGATIVE : goal.returns-else-bits-lt-LEAST_NEGATIVE
returns-else-bits-lt-LEAST_NEGATIVE c =
    wrote_is (signed_high c.args.bits c.args.last c.if-bits-lt-LEAST_NEGATIVE.false c.requires.bits_bound)
    (wrote_then 22 c.put_byte-end.ensures c.put_number-else-bits-lt-LEAST_NEGATIVE.ensures (omega arith))
