use lib.ListN.{length}
use Prim.Native.Nat.{◌-◌}
use Rattle.off_known.proofs.Knowing.{Reading}
use Rattle.off_known.proofs.read_number.Given as goal

abbrev pub invariant-loop-next : goal.invariant-loop-next
invariant-loop-next l = Reading l.text l.at l.value l.next

abbrev pub decreases-loop-next : goal.decreases-loop-next
decreases-loop-next l = length l.text - l.next
