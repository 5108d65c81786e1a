-- `refresh_vertex` meets its contract. Assumes nothing.
use Rattle.rings.specs.Table.{rows}
use Rattle.move_touched.proofs.Renewed.{points_yes, points_no}
use Rattle.move_refresh.proofs.next_level.refresh_vertex.Goals as goal

pub returns-then-is_marked : goal.returns-then-is_marked
unfolding rows
returns-then-is_marked c =
    points_yes _ _ _ _ _ _ c.is_marked.ensures c.if-is_marked.true c.set_vertex.ensures

pub returns-else-is_marked : goal.returns-else-is_marked
unfolding rows
returns-else-is_marked c = points_no _ _ _ _ _ _ c.is_marked.ensures c.if-is_marked.false
