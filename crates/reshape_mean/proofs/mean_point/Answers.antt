-- `mean_point` meets its contract. Assumes nothing.
use Rattle.loop_points.proofs.PointSums.{point_by_lem}
use Rattle.reshape.specs.Mean.{mean_mask}
use Rattle.reshape_mean.proofs.MeanPoints.{mean_coordinate}
use Rattle.reshape_mean.proofs.mean_point.Goals as goal

pub returns : goal.returns
returns c =
    point_by_lem (mean_mask c.args.corners.now) c.args.positions.now _ _ _
    (mean_coordinate c.ring_sums-s.ensures.x c.mean.ensures)
    (mean_coordinate c.ring_sums-s.ensures.y c.mean-2.ensures)
    (mean_coordinate c.ring_sums-s.ensures.z c.mean-3.ensures)
