-- `map::clear` meets its contract. Assumes nothing.
use native.Mathlib.Omega.{arith}
use Rattle.move_map.proofs.Sets.{cleared}
use Rattle.move_map.proofs.clear.Goals as goal

pub returns : goal.returns
returns c = rw (← c.words_for.ensures) (cleared c.args.map.now _ c.words_for.result (omega arith) (c.fill.ensures.after (λ y e. e)))
