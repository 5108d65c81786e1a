-- `floats::units_of_bits` meets its contract. Assumes nothing.
use mathlib.Core.Path.{sym, ◌∙◌, subst}
use Prim.Native.Nat.{zero-le}
use native.Mathlib.Omega.{arith}
use Rattle.units.specs.Coordinate.{InRange}
use Rattle.units.proofs.Coordinates.{there}
use Rattle.millimetres.proofs.FloatsInUnits.{tiny_units, over_is, over_units}
use Rattle.millimetres.proofs.floats.units_of_bits.Goals as goal

pub returns-then-field-lt-LEAST_FIELD : goal.returns-then-field-lt-LEAST_FIELD
returns-then-field-lt-LEAST_FIELD c = (sym (tiny_units c.args.bits c.requires c.if-field-lt-LEAST_FIELD.true), zero-le)

pub overflow_sub-field : goal.overflow_sub-field
overflow_sub-field c = omega (arith, (over_is c.args.bits c.requires c.if-field-lt-LEAST_FIELD.false).upto)

pub scaled-requires : goal.scaled-requires
scaled-requires c =
    let o = over_is c.args.bits c.requires c.if-field-lt-LEAST_FIELD.false in
    record { fact_1 = omega (arith, o.upto, o.small); fact_2 = omega (arith, o.upto, o.small); fact_3 = omega (arith, o.upto, o.small); fact_4 = omega (arith, o.upto, o.small) }

pub returns : goal.returns
returns c =
    let r = there c.scaled.result c.scaled.ensures.1 in
    (r ∙ c.scaled.ensures.0 ∙ sym (over_units c.args.bits c.requires c.if-field-lt-LEAST_FIELD.false), subst InRange (sym r) c.scaled.ensures.1)
