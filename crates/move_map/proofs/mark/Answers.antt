-- `map::mark` meets its contract. Assumes nothing.
use Rattle.move_map.proofs.Sets.{mark_law}
use Rattle.move_map.proofs.mark.Goals as goal

pub returns : goal.returns
returns c = mark_law _ _ c.requires
