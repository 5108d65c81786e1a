-- `moves::settled` meets its contract. Assumes nothing.
use mathlib.Core.Path.{◌≡◌, sym, ap, ◌∙◌, subst}
use lib.Dec.{T}
use lib.IntN.{ℤ}
use lib.Ieee.{Float}
use mir.Syntax.{w32}
use mir.Val.{to_z, of_z}
use Rattle.std.proofs.Common.{Some, Ok}
use Rattle.units.specs.Coordinate.{InRange}
use Rattle.units.proofs.Coordinates.{there}
use Rattle.millimetres.specs.Millimetres.{units_answer, units_of}
use Rattle.millimetres.proofs.FloatsInUnits.{units_in}
use Rattle.millimetres.proofs.MoveCases.{was_units, settled_by, point_is, all_three}
use Rattle.millimetres.proofs.moves.settled.Goals as goal

-- an answer in range is kept as it is
read_back_lem : (x : Float) (z : ℤ) → units_answer x ≡ Some z → to_z w32 (of_z w32 z) ≡ units_of x
read_back_lem x z e = let g = was_units x z e in there z (subst InRange (sym g.1) (units_in x (subst T (sym g.0) tt))) ∙ g.1

pub returns : goal.returns
returns c =
    let m = c.args.m in
    let x : units_answer m.x ≡ Some c.in_ok-x.x = sym c.units_of.ensures ∙ c.in_ok-x.ensures.ok_part in
    let y : units_answer m.y ≡ Some c.in_ok-y.y = sym c.units_of-2.ensures ∙ c.in_ok-y.ensures.ok_part in
    let z : units_answer m.z ≡ Some c.in_ok-z.z = sym c.units_of-3.ensures ∙ c.in_ok-z.ensures.ok_part in
    ap Ok (point_is _ _ _ _ _ _ (read_back_lem m.x _ x) (read_back_lem m.y _ y) (read_back_lem m.z _ z))
    ∙ sym (settled_by m _ (all_three _ _ _ (was_units m.x _ x).0 (was_units m.y _ y).0 ∙ (was_units m.z _ z).0))
