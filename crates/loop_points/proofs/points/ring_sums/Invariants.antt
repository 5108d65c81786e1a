use lib.ListN.{take}
use Rattle.rings.specs.Table.{coordinate_at}
use Rattle.loop_points.specs.Level.{SumOf}
use Rattle.loop_points.proofs.points.ring_sums.Given as goal

abbrev pub invariant-loop-u : goal.invariant-loop-u
invariant-loop-u l = record {
  x : SumOf (take l.u-index l.ring) (coordinate_at l.positions 0) l.x;
  y : SumOf (take l.u-index l.ring) (coordinate_at l.positions 1) l.y;
  z : SumOf (take l.u-index l.ring) (coordinate_at l.positions 2) l.z;
}
