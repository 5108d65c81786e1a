-- `smallest_of` meets its contract. Assumes nothing.
use Rattle.std.proofs.Common.{arith}
use Rattle.std.proofs.lemmas.Grind.{common_steps}
use Rattle.off_walk.proofs.Following.{least_is}
use Rattle.off_walk.proofs.smallest_of.Goals as goal

pub returns : goal.returns
returns c = grind (arith, common_steps, least_is c.args.count c.args.from.now c.args.to.now)
