-- `map::is_marked` meets its contract. Assumes nothing.
use mathlib.Core.Path.{refl}
use Rattle.move_map.specs.Map.{marked, bit_of}
use Rattle.move_map.proofs.is_marked.Goals as goal

pub returns : goal.returns
unfolding marked bit_of
returns c = refl
