use mathlib.Core.Path.{◌≡◌}
use lib.ListN.{take}
use Rattle.loop_step.specs.Refine.{old_ring}
use Rattle.rings.specs.Table.{lent, put, rows}
use Rattle.loop_sweep.proofs.vertices.write_old_ring.Given as goal

abbrev pub invariant-loop-k : goal.invariant-loop-k
invariant-loop-k l = l.rings ≡ put l.initial.rings l.a (take l.k (old_ring (rows l.count (lent l.valences l.initial.rings)) l.p))
