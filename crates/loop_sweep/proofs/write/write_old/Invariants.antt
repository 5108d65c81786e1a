use mathlib.Core.Path.{◌≡◌}
use Rattle.rings.specs.Table.{lent}
use Rattle.loop_points.specs.Level.{start_of}
use Rattle.loop_sweep.proofs.Done.{Done}
use Rattle.loop_sweep.proofs.write.write_old.Given as goal

abbrev pub invariant-loop-p : goal.invariant-loop-p
invariant-loop-p l = record {
  counted : l.start ≡ start_of l.count (lent l.initial.valences l.initial.rings) l.p;
  done : Done l.count l.p (lent l.initial.valences l.initial.rings) l.initial.positions (lent l.valences l.rings) l.positions;
}
