use Prim.Native.Nat.{◌+◌}
use Rattle.mesh.proofs.First.{Clear}
use Rattle.rings.specs.Table.{lent, ring_of}
use Rattle.stack_strange.specs.Expected.{strange_next}
use Rattle.stack_strange.proofs.NextNumbers.{Passed}
use Rattle.stack_strange.proofs.next_level.first_strange_edge.Given as goal

abbrev pub invariant-loop-x : goal.invariant-loop-x
invariant-loop-x l = record {
  passed : Passed (ring_of (lent l.valences l.rings) l.p) l.p l.start l.last l.x;
  clear : Clear (strange_next l.count (lent l.valences l.rings) l.positions) (l.count + l.x);
}
