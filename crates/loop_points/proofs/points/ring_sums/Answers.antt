-- `ring_sums` meets its contract. Assumes nothing.
use Rattle.loop_points.proofs.PointSums.{sum_step, read_x, read_y, read_z, read_in}
use Rattle.loop_points.proofs.points.ring_sums.Goals as goal

pub biased-x-requires : goal.biased-x-requires
biased-x-requires c = read_in (read_x c.requires.near (c.requires.all_below.below c.loop-u.u-index c.loop-u-test.true))

pub biased-y-requires : goal.biased-y-requires
biased-y-requires c = read_in (read_y c.requires.near (c.requires.all_below.below c.loop-u.u-index c.loop-u-test.true))

pub biased-z-requires : goal.biased-z-requires
biased-z-requires c = read_in (read_z c.requires.near (c.requires.all_below.below c.loop-u.u-index c.loop-u-test.true))

pub loop-u-preserved : goal.loop-u-preserved
loop-u-preserved c =
    let ring = c.args.ring.now in
    let near = c.requires.near in
    let t = c.loop-u-test.true in
    let entry = c.requires.all_below.below c.loop-u.u-index t in
    record {
      x = sum_step ring c.loop-u.u-index _ t c.loop-u.invariant.x (read_x near entry) c.biased-x.ensures;
      y = sum_step ring c.loop-u.u-index _ t c.loop-u.invariant.y (read_y near entry) c.biased-y.ensures;
      z = sum_step ring c.loop-u.u-index _ t c.loop-u.invariant.z (read_z near entry) c.biased-z.ensures;
    }
