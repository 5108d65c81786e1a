-- `read_point` meets its contract. Assumes nothing.
use native.Mathlib.Omega.{arith}
use mathlib.Core.Path.{◌∙◌}
use Prim.Native.Nat.{◌+◌}
use lib.ListN.{length-set}
use mir.Syntax.{w32}
use mir.ValLaws.{to_z-of_z}
use Rattle.file_reading.proofs.RowsRead.{point_is, three_is}
use Rattle.file_reading.proofs.rows.read_point.Goals as goal

pub bounds-positions-v-2 : goal.bounds-positions-v-2
bounds-positions-v-2 c = simp length-set (omega arith)

pub bounds-positions-v-3 : goal.bounds-positions-v-3
bounds-positions-v-3 c = simp length-set (omega arith)

pub returns : goal.returns
returns c =
    let b = c.args.bytes.now in
    let v = c.args.v in
    let at = c.args.at in
    three_is (to_z-of_z w32 c.coordinate_at-x.result (record { sfits = c.coordinate_at-x.type_inv }) ∙ point_is b v at 0 (at + 6) c.requires.at_value (omega arith) c.coordinate_at-x.ensures)
    (to_z-of_z w32 c.coordinate_at-y.result (record { sfits = c.coordinate_at-y.type_inv }) ∙ point_is b v at 1 (at + 10) c.requires.at_value (omega arith) c.coordinate_at-y.ensures)
    (to_z-of_z w32 c.coordinate_at-z.result (record { sfits = c.coordinate_at-z.type_inv }) ∙ point_is b v at 2 (at + 14) c.requires.at_value (omega arith) c.coordinate_at-z.ensures) c.requires.v_in_bounds
