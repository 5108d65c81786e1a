-- `coordinate_length` meets its contract. Assumes nothing.
use borrow.Author.Rules.{rules}
use mathlib.Core.Path.{ap, ◌∙◌}
use lib.IntN.{ℤ, pos}
use lib.ListN.{length, get_or}
use Rattle.numerals.specs.Numerals.{signed}
use Rattle.numerals.proofs.Writing.{bits_are}
use Rattle.numerals.proofs.coordinate_length.Goals as goal

pub signed_length-requires : goal.signed_length-requires
signed_length-requires c =
    (bits_are (get_or c.args.positions.now c.args.i (pos 0)) (record { sfits = search rules }) c.bits_of.ensures).below

pub returns : goal.returns
returns c =
    let z = get_or c.args.positions.now c.args.i (pos 0) in
    let b = bits_are z (record { sfits = search rules }) c.bits_of.ensures in
    record { value = c.signed_length.ensures.value ∙ ap (λ (z : ℤ). length (signed z 0)) b.is; upper_bound = c.signed_length.ensures.upper_bound }
