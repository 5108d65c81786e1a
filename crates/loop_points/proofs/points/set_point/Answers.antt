-- `set_point` meets its contract. Assumes nothing.
use Prim.Native.Nat.{◌*◌}
use mir.Syntax.{w32}
use mir.ValLaws.{to_z-of_z}
use Rattle.loop_points.proofs.PointSums.{put_point}
use Rattle.loop_points.proofs.points.set_point.Goals as goal

pub returns : goal.returns
returns c =
    let g = c.struct_told-1.given in
    let p = c.args.point in
    put_point c.args.positions.now (c.args.v * 3) p c.requires.v_in_bounds (to_z-of_z w32 p.x (record { sfits = g.0.1 })) (to_z-of_z w32 p.y (record { sfits = g.1.0.1 })) (to_z-of_z w32 p.z (record { sfits = g.1.1.0.1 }))
