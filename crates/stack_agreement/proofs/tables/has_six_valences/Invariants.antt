use Prim.Native.Nat.{ℕ}
use mathlib.Core.Path.{◌≡◌}
use lib.ListN.{get_or}
use Rattle.stack_agreement.proofs.Telling.{Missed}
use Rattle.stack_agreement.proofs.tables.has_six_valences.Given as goal

abbrev pub invariant-loop-n : goal.invariant-loop-n
invariant-loop-n l = Missed (λ (j : ℕ). get_or l.n-items j 0 ≡ 6) l.other l.n-index
