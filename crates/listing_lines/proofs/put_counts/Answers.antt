-- `put_counts` meets its contract. Assumes nothing.
use native.Mathlib.Omega.{arith}
use Rattle.listing_lines.specs.Lines.{counts_line}
use Rattle.numerals.proofs.Digits.{number_fits}
use Rattle.numerals.proofs.Writing.{wrote_then}
use Rattle.listing_lines.proofs.put_counts.Goals as goal

pub put_number-after_level-requires : goal.put_number-after_level-requires
put_number-after_level-requires c = number_fits _ _ _ _ (omega arith)

pub put_number-after_v-requires : goal.put_number-after_v-requires
put_number-after_v-requires c = number_fits _ _ _ _ (omega arith)

pub put_number-after_e-requires : goal.put_number-after_e-requires
put_number-after_e-requires c = number_fits _ _ _ _ (omega arith)

pub put_number-requires : goal.put_number-requires
put_number-requires c = number_fits _ _ _ _ (omega arith)

pub returns : goal.returns
unfolding counts_line
returns c =
    wrote_then 84 c.put_number-after_level.ensures
    (wrote_then 63 c.put_number-after_v.ensures
    (wrote_then 42 c.put_number-after_e.ensures c.put_number.ensures (omega arith))
    (omega arith))
    (omega arith)
