-- `set_new` meets its contract. Assumes nothing.
use Rattle.move_refresh.proofs.NewPoints.{new_set}
use Rattle.move_refresh.proofs.next_level.set_new.Goals as goal

pub returns : goal.returns
returns c =
    let s = c.args in
    new_set s.rings.now s.count s.x s.positions.now c.far_end-a.ensures c.far_end-b.ensures
    c.edge_point_of-point.ensures.value c.set_point.ensures
