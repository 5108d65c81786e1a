-- `points::nearest` meets its contract. Assumes nothing.
use Rattle.steps.proofs.Rounding.{round_nat_divided}
use Rattle.units.proofs.points.nearest.Goals as goal

pub returns : goal.returns
returns c = round_nat_divided c.args.n c.args.d c.requires.fact_3
