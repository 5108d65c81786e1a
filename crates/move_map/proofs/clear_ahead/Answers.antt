-- `clear_ahead` meets its contract. Assumes nothing.
use mathlib.Core.Path.{refl}
use native.Mathlib.Omega.{arith}
use Rattle.move_map.proofs.Sets.{none_ahead}
use Rattle.move_map.proofs.clear_ahead.Goals as goal

pub returns-clause-none_from : goal.returns-clause-none_from
returns-clause-none_from c = none_ahead _ _ _ _ refl (omega arith) (omega arith)
