-- `put_refused` meets its contract. Assumes nothing.
use native.Mathlib.Omega.{arith}
use Rattle.numerals.proofs.Digits.{number_fits}
use Rattle.listing_lines.proofs.LinesWritten.{refused_wrote}
use Rattle.listing_lines.proofs.put_refused.Goals as goal

pub put_number-end-requires : goal.put_number-end-requires
put_number-end-requires c = number_fits _ _ _ _ (omega arith)

pub put_number-requires : goal.put_number-requires
put_number-requires c = number_fits _ _ _ _ (omega arith)

pub returns : goal.returns
returns c =
    refused_wrote c.args.refusal
    c.put_word.ensures
    c.number.ensures c.put_number-end.ensures
    c.place.ensures c.put_number.ensures
