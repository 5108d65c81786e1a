-- `past_vertex` meets its contract. Assumes nothing.
use native.Mathlib.Omega.{arith}
use Rattle.std.proofs.lemmas.Bool.Decides.{nat_tests}
use Rattle.off_units.specs.Past.{past_unit}
use Rattle.off_units.proofs.Passing.{unit_found}
use Rattle.off_text.specs.Layout.{is_vertex, after_vertex}
use Rattle.off_layout.specs.Judging.{past_vertex}
use Rattle.off_layout.proofs.past_vertex.Goals as goal

pub returns-in_err-y : goal.returns-in_err-y
unfolding past_vertex is_vertex past_unit
returns-in_err-y c = grind (arith, nat_tests)

pub past_unit-requires-2-clause-at_in_bounds : goal.past_unit-requires-2-clause-at_in_bounds
past_unit-requires-2-clause-at_in_bounds c = grind (arith, unit_found, c.in_ok-y.ensures)

pub returns-in_err-z : goal.returns-in_err-z
unfolding past_vertex is_vertex past_unit
returns-in_err-z c = grind (arith, nat_tests)

pub past_unit-requires-3-clause-at_in_bounds : goal.past_unit-requires-3-clause-at_in_bounds
past_unit-requires-3-clause-at_in_bounds c = grind (arith, unit_found, c.in_ok-z.ensures)

pub returns : goal.returns
unfolding past_vertex is_vertex past_unit after_vertex
returns c = grind (arith, nat_tests)
