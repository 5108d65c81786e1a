use Prim.Native.Nat.{◌+◌}
use mathlib.Core.Path.{◌≡◌}
use lib.ListN.{length, take}
use Rattle.rings.specs.Table.{lent, ring_of, rows}
use Rattle.move_map.specs.Map.{marked}
use Rattle.move_touched.specs.NextLevel.{joined}
use Rattle.move_touched.proofs.Marking.{dependents_by}
use Rattle.move_touched.proofs.marks.mark_dependents.Given as goal

abbrev pub invariant-loop-u : goal.invariant-loop-u
invariant-loop-u l =
    marked l.map ≡ joined (marked l.initial.map) (l.base + l.count) (dependents_by (rows l.count (lent l.valences l.rings)) l.t (take (length l.yielded) (ring_of (lent l.valences l.rings) l.t)))
