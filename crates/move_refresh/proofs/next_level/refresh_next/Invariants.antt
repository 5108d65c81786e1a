use Prim.Native.Nat.{◌-◌, ◌≤◌}
use Rattle.rings.specs.Table.{lent, rows}
use Rattle.move_map.specs.Map.{marked}
use Rattle.move_touched.proofs.Renewed.{Refreshed}
use Rattle.move_refresh.proofs.next_level.refresh_next.Given as goal

abbrev pub invariant-loop-x : goal.invariant-loop-x
invariant-loop-x l = record {
  bound : l.x ≤ l.above;
  refreshed : Refreshed (rows l.count (lent l.valences l.rings)) l.base (marked l.map) l.initial.positions l.x l.positions;
}

abbrev pub decreases-loop-x : goal.decreases-loop-x
decreases-loop-x l = l.above - l.x
