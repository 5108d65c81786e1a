-- `floats::units_of` meets its contract. Assumes nothing.
use mathlib.Core.Path.{◌≡◌, sym, ap, ◌∙◌, subst}
use mathlib.Core.Bool.{Bool, true, false, cond}
use borrow.Author.Rules.{rules}
use lib.Dec.{T}
use lib.Ieee.{Float, binary64, neg, of_bits, to_bits}
use lib.Ieee.Bits.{of_bits-to_bits}
use Rattle.millimetres.specs.Millimetres.{inside, units_of, units_answer}
use Rattle.units.proofs.Coordinates.{there}
use Rattle.std.proofs.Common.{Some, None}
use Rattle.millimetres.proofs.FloatsInUnits.{inside_yes, inside_low, inside_high, inside_no_nan}
use Rattle.millimetres.proofs.floats.units_of.Goals as goal
use Rattle.millimetres.proofs.floats.units_of.Goals.{else-x-via-then-x+else-x-2, else-x-via-else-x}

by_test : (x : Float) (b : Bool) → inside x ≡ b → units_answer x ≡ cond b (Some (units_of x)) None
unfolding units_answer
by_test x b e = ap (λ (t : Bool). cond t (Some (units_of x)) None) e

pub float_to_bits-x : goal.float_to_bits-x
unfolding of_bits neg
float_to_bits-x c =
    let passed : inside c.args.x ≡ true = inside_yes c.args.x c.if-x.true c.if-x-2.true in
    inside_no_nan c.args.x (subst T (sym passed) tt)

pub units_of_bits-requires : goal.units_of_bits-requires
unfolding of_bits neg
units_of_bits-requires c =
    let passed : inside c.args.x ≡ true = inside_yes c.args.x c.if-x.true c.if-x-2.true in
    let back : of_bits binary64 (to_bits binary64 c.args.x) ≡ c.args.x = of_bits-to_bits binary64 c.args.x (search rules) in
    subst (λ (y : Float). T (inside y)) (sym back) (subst T (sym passed) tt)

pub returns-then-x-2 : goal.returns-then-x-2
unfolding of_bits neg
returns-then-x-2 c =
    let passed : inside c.args.x ≡ true = inside_yes c.args.x c.if-x.true c.if-x-2.true in
    let back : of_bits binary64 (to_bits binary64 c.args.x) ≡ c.args.x = of_bits-to_bits binary64 c.args.x (search rules) in
    let x = c.args.x in
    ap Some (there c.units_of_bits.result c.units_of_bits.ensures.1 ∙ c.units_of_bits.ensures.0 ∙ ap units_of back)
    ∙ sym (by_test x true passed)

pub returns-else-x : goal.returns-else-x
unfolding of_bits neg
returns-else-x c =
    elim c.else-x.branch [
      | else-x-via-else-x w ↦ sym (by_test c.args.x false (inside_low c.args.x w.if-x.false))
      | else-x-via-then-x+else-x-2 w ↦ sym (by_test c.args.x false (inside_high c.args.x w.if-x-2.false))
    ]
