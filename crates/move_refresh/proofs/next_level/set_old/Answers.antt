-- `set_old` meets its contract. Assumes nothing.
use mathlib.Core.Path.{ap, ◌∙◌}
use Rattle.loop_step.specs.Loop.{vertex_mask}
use Rattle.loop_step.proofs.LoopMasks.{old_mask}
use Rattle.rings.specs.Table.{rows}
use Rattle.rings.proofs.Rows.{rows_ring}
use Rattle.move_touched.proofs.Renewed.{point_set_lem}
use Rattle.move_refresh.proofs.next_level.set_old.Goals as goal

pub returns : goal.returns
unfolding rows
returns c =
    let v = c.args.v in
    let m = old_mask _ v c.requires.v_lt_count ∙ ap (vertex_mask v) (rows_ring _ _ v c.requires.v_lt_count) in
    point_set_lem _ _ v _ m c.old_point-point.ensures.value c.set_point.ensures
