-- `mean` meets its contract: 2 is taken out of the fraction. Assumes nothing.
use mathlib.Core.Path.{refl, sym, ◌∙◌}
use Prim.Native.Nat.{◌*◌}
use lib.Dec.{lit<}
use Rattle.steps.proofs.Ints.{self}
use Rattle.units.specs.Coordinate.{offset}
use Rattle.units.proofs.Coordinates.{mean_is, rounded_factor}
use Rattle.reshape_mean.proofs.mean.Goals as goal

pub returns : goal.returns
returns c =
    let s = c.args.s in
    let n = c.args.n in
    let h = c.coordinate.ensures in
    mean_is offset n refl (self s (offset * n)) (h.0 ∙ sym (rounded_factor 2 s offset n (lit< tt) c.requires.fact_2 refl), h.1)
