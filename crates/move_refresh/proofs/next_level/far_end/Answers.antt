-- `far_end` meets its contract. Assumes nothing.
use mathlib.Core.Path.{refl}
use Rattle.move_refresh.specs.NewPoint.{far_end}
use Rattle.move_refresh.proofs.next_level.far_end.Goals as goal

pub returns : goal.returns
unfolding far_end
returns c = refl
