-- `read_unit` meets its contract. Assumes nothing.
use native.Mathlib.Omega.{arith}
use Rattle.std.proofs.lemmas.Int.{ints}
use Rattle.off_known.proofs.Knowing.{unit_within, unit_below, unit_above, unit_below_is, unit_above_is}
use Rattle.off_known.proofs.read_unit.Goals as goal

pub bounds-text-at : goal.bounds-text-at
bounds-text-at c = unit_within c.requires

pub overflow_cast-text : goal.overflow_cast-text
overflow_cast-text c = omega (arith, c.type_inv.text c.args.at)

pub overflow_add-at : goal.overflow_add-at
overflow_add-at c = omega (arith, unit_within c.requires)

pub read_number-below-requires : goal.read_number-below-requires
read_number-below-requires c = (unit_below c.requires c.if-text-at-eq-MINUS.true).1.there

pub overflow_sub-below : goal.overflow_sub-below
overflow_sub-below c =
    let k = unit_below c.requires c.if-text-at-eq-MINUS.true in
    omega (arith, k.1.low, c.read_number-below.ensures.value_value)

pub coordinate_of-requires : goal.coordinate_of-requires
coordinate_of-requires c =
    let k = unit_below c.requires c.if-text-at-eq-MINUS.true in
    omega (arith, k.0, k.1.low, c.read_number-below.ensures.value_value)

pub returns-then-text-at-eq-MINUS : goal.returns-then-text-at-eq-MINUS
returns-then-text-at-eq-MINUS c =
    let t = unit_below_is c.requires c.if-text-at-eq-MINUS.true c.read_number-below.ensures.value_value c.read_number-below.ensures.next_value
    (grind (arith, ints)) in
    record { value_value = t.0; next_value = t.1 }

pub read_number-above-requires : goal.read_number-above-requires
read_number-above-requires c = (unit_above c.requires c.if-text-at-eq-MINUS.false).there

pub coordinate_of-requires-else-text-at-eq-MINUS : goal.coordinate_of-requires-else-text-at-eq-MINUS
coordinate_of-requires-else-text-at-eq-MINUS c =
    let k = unit_above c.requires c.if-text-at-eq-MINUS.false in
    omega (arith, k.low, c.read_number-above.ensures.value_value)

pub returns-else-text-at-eq-MINUS : goal.returns-else-text-at-eq-MINUS
returns-else-text-at-eq-MINUS c =
    let t = unit_above_is c.requires c.if-text-at-eq-MINUS.false c.read_number-above.ensures.value_value c.read_number-above.ensures.next_value
    (grind (arith, ints)) in
    record { value_value = t.0; next_value = t.1 }
