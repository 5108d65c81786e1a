-- `write_sixes` meets its contract. Assumes nothing.
use Rattle.loop_sweep.proofs.Whole.{part_filled}
use Rattle.loop_sweep.proofs.write.write_sixes.Goals as goal

pub returns : goal.returns
returns c = part_filled c.args.valences.now c.args.first c.args.end 6 c.requires.end_in_bounds (c.fill.ensures.after (λ y e. e))
