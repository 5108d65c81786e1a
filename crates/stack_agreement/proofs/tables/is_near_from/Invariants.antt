use Prim.Native.Nat.{ℕ}
use mathlib.Core.Path.{◌≡◌}
use lib.ListN.{get_or}
use Rattle.stack_agreement.proofs.Telling.{Missed}
use mathlib.Core.Bool.{false}
use lib.IntN.{pos}
use Rattle.units.specs.Coordinate.{beyond as outside}
use Rattle.stack_agreement.proofs.tables.is_near_from.Given as goal

abbrev pub invariant-loop-c : goal.invariant-loop-c
invariant-loop-c l = Missed (λ (j : ℕ). outside (get_or l.c-items j (pos 0)) ≡ false) l.beyond l.c-index
