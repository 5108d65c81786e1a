-- `put_coordinate` meets its contract. Assumes nothing.
use borrow.Author.Rules.{rules}
use native.Mathlib.Omega.{arith}
use mathlib.Core.Path.{ap}
use lib.IntN.{ℤ, pos}
use lib.ListN.{length, get_or}
use Rattle.numerals.specs.Numerals.{signed}
use Rattle.numerals.proofs.Writing.{bits_are, wrote_is}
use Rattle.numerals.proofs.put_coordinate.Goals as goal

pub put_signed-requires : goal.put_signed-requires
put_signed-requires c =
    let b = bits_are (get_or c.args.positions.now c.args.i (pos 0)) (record { sfits = search rules }) c.bits_of.ensures in
    record { last_in_bounds = omega (arith, ap (λ (z : ℤ). length (signed z c.args.last)) b.is); bits_bound = b.below }

pub returns : goal.returns
returns c =
    let z = get_or c.args.positions.now c.args.i (pos 0) in
    let b = bits_are z (record { sfits = search rules }) c.bits_of.ensures in
    wrote_is (ap (λ (z : ℤ). signed z c.args.last) b.is) c.put_signed.ensures
