-- `put_number` meets its contract. Assumes nothing.
use native.Mathlib.Omega.{arith}
use Rattle.file_format.proofs.Blocks.{put_length}
use Rattle.numerals.proofs.Digits.{number_length}
use Rattle.numerals.proofs.Writing.{number_wrote}
use Rattle.numerals.proofs.put_number.Goals as goal

pub put_digits-requires : goal.put_digits-requires
put_digits-requires c =
    let e = c.digit_count-count.ensures.value in
    record { count_value = e; count_in_bounds = omega (arith, c.requires, number_length c.args.n c.args.last) }

pub put_byte-requires : goal.put_byte-requires
put_byte-requires c =
    let e = c.digit_count-count.ensures.value in
    omega (arith, c.requires, number_length c.args.n c.args.last, put_length c.put_digits.ensures)

pub returns : goal.returns
returns c =
    number_wrote c.args.n c.args.last
    c.put_digits.ensures
    c.digit_count-count.ensures.value
    c.put_byte.ensures
