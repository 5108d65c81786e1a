use Prim.Native.Nat.{ℕ, ◌+◌}
use mathlib.Core.Path.{◌≡◌}
use lib.ListN.{get_or}
use Rattle.stack_agreement.proofs.Telling.{Missed}
use Rattle.stack_agreement.proofs.tables.has_same_valences.Given as goal

abbrev pub invariant-loop-v : goal.invariant-loop-v
invariant-loop-v l = Missed (λ (j : ℕ). get_or l.valences (l.count + j) 0 ≡ get_or l.valences j 0) l.other l.v
