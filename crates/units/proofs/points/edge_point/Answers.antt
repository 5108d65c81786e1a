-- `points::edge_point` meets its contract. Assumes nothing.
use mathlib.Core.Path.{refl}
use Rattle.steps.proofs.Ints.{plus, times}
use Rattle.units.specs.Coordinate.{offset}
use Rattle.units.specs.Points.{edge_point}
use Rattle.units.proofs.Coordinates.{from, mean_is}
use Rattle.units.proofs.points.edge_point.Goals as goal

pub returns : goal.returns
unfolding edge_point
returns c =
    let x = c.args in
    mean_is offset 8 refl
    (plus (plus (times 3 (plus (from x.p c.requires.fact_1 c.biased.ensures) (from x.q c.requires.fact_2 c.biased-2.ensures)))
    (from x.a c.requires.fact_3 c.biased-3.ensures)) (from x.b c.requires.fact_4 c.biased-4.ensures))
    c.coordinate.ensures
