use Prim.Native.Nat.{◌-◌, ◌≤◌}
use Rattle.rings.specs.Table.{lent, rows}
use Rattle.move_map.specs.Map.{marked}
use Rattle.move_touched.proofs.Judging.{Judging}
use Rattle.move_touched.proofs.marks.mark_next.Given as goal

abbrev pub invariant-loop-t : goal.invariant-loop-t
invariant-loop-t l = record {
  bound : l.t ≤ l.count;
  judging : Judging l.count (rows l.count (lent l.valences l.rings)) l.base l.t (marked l.initial.map) (marked l.map);
}

abbrev pub decreases-loop-t : goal.decreases-loop-t
decreases-loop-t l = l.count - l.t
