use mathlib.Core.Path.{◌≡◌}
use Rattle.mesh.proofs.First.{Clear}
use Rattle.rings.specs.Table.{lent}
use Rattle.loop_points.specs.Level.{start_of}
use Rattle.stack_strange.specs.Expected.{strange_next}
use Rattle.stack_strange.proofs.next_level.first_strange_old.Given as goal

abbrev pub invariant-loop-p : goal.invariant-loop-p
invariant-loop-p l = record {
  start : l.start ≡ start_of l.count (lent l.valences l.rings) l.p;
  clear : Clear (strange_next l.count (lent l.valences l.rings) l.positions) l.p;
}
