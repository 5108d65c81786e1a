-- `points::coordinate` meets its contract. Assumes nothing.
use mathlib.Core.Path.{refl, sym, ap, ◌∙◌, subst}
use Prim.Native.Nat.{ℕ, ◌+◌, ◌*◌, ◌≤◌}
use native.Mathlib.Omega.{arith}
use lib.IntN.{sub_ℕ}
use Rattle.mesh.specs.Limits.{most_units}
use Rattle.steps.proofs.Rounding.{rounded_sub, round_nat_le}
use Rattle.units.specs.Coordinate.{InRange, offset}
use Rattle.units.proofs.Coordinates.{there, down_in}
use Rattle.units.proofs.points.coordinate.Goals as goal

small : (c : goal.After-nearest_by_twice) → c.nearest_by_twice.result ≤ offset + most_units
small c =
    omega (arith, c.nearest_by_twice.ensures, round_nat_le (offset + most_units) c.args.n (2 * c.args.h) (omega arith) c.requires.fact_1)

pub difference-requires-clause-fact_1 : goal.difference-requires-clause-fact_1
difference-requires-clause-fact_1 c = omega (arith, small c)

pub returns : goal.returns
returns c =
    let h = subst InRange (sym c.difference.ensures) (down_in offset c.nearest_by_twice.result (omega arith) (small c.before)) in
    let r = there c.difference.result h in (
      r ∙ c.difference.ensures ∙ ap (λ (u : ℕ). sub_ℕ u offset) c.nearest_by_twice.ensures ∙ sym (rounded_sub c.args.n offset (2 * c.args.h) (omega arith) refl),
      subst InRange (sym r) h,
    )
