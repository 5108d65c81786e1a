-- `set_vertex` meets its contract. Assumes nothing.
use mathlib.Core.Path.{refl}
use Rattle.rings.specs.Table.{rows}
use Rattle.move_touched.proofs.Renewed.{point_set_lem}
use Rattle.move_refresh.proofs.NewPoints.{mask_is, new_ready}
use Rattle.move_refresh.proofs.next_level.set_vertex.Goals as goal

pub set_new-requires : goal.set_new-requires
set_new-requires c =
    new_ready c.requires.levels.ready c.requires.next_rings c.args.x c.if-x-count.false c.requires.x_bound c.requires.levels

pub returns-else-x-count : goal.returns-else-x-count
unfolding rows
returns-else-x-count c =
    let m = mask_is c.requires.levels.ready c.requires.next_rings c.args.x c.if-x-count.false c.requires.x_bound in
    point_set_lem _ _ c.args.x _ m refl c.set_new.ensures
