-- `fill_block` meets its contract: the rows before the first that is over its width are written. Assumes nothing.
use native.Mathlib.Omega.{arith}
use Rattle.off_filling.proofs.BlockFilled.{reached, rows_within, rows_room, rows_gathered, rows_narrow, over_narrow, stepped_full, stepped_over}
use Rattle.off_filling.proofs.fill_block.Goals as goal
use Rattle.off_filling.proofs.fill_block.Goals.{then-rows-j, else-rows-j}

pub fill_rows-requires : goal.fill_rows-requires
fill_rows-requires c =
    let r = reached c.requires.face_lines c.requires.tables c.rows_of-rows.ensures c.gather_faces.ensures.gathered c.gather_faces.ensures.same_room c.over_row-j.ensures in
    record { fillable = c.requires.fillable; rows_bound = rows_within r c.requires.at_lt_count; room = rows_room r; gathered = rows_gathered r; narrow = rows_narrow r }

pub wider-width-requires-clause-width_lt_places : goal.wider-width-requires-clause-width_lt_places
wider-width-requires-clause-width_lt_places c =
    let r = reached c.requires.face_lines c.requires.tables c.rows_of-rows.ensures c.gather_faces.ensures.gathered c.gather_faces.ensures.same_room c.over_row-j.ensures in
    over_narrow r c.requires.fillable c.requires.at_lt_count c.if-rows-j.false

pub overflow_add-result : goal.overflow_add-result
overflow_add-result c =
    let r = reached c.requires.face_lines c.requires.tables c.rows_of-rows.ensures c.gather_faces.ensures.gathered c.gather_faces.ensures.same_room c.over_row-j.ensures in
    omega (arith, rows_within r c.requires.at_lt_count)

pub returns-clause-stepped : goal.returns-clause-stepped
returns-clause-stepped c =
    let r = reached c.requires.face_lines c.requires.tables c.rows_of-rows.ensures c.gather_faces.ensures.gathered c.gather_faces.ensures.same_room c.over_row-j.ensures in
    elim c.if-rows-j.branch [
      | then-rows-j w ↦ rw w.width-is (stepped_full r c.requires.at_lt_count c.requires.width w.narrower-width.ensures c.fill_rows.ensures w.if-rows-j.true)
      | else-rows-j w ↦ rw w.width-is (stepped_over r c.requires.at_lt_count c.requires.width w.wider-width.ensures.width_2 c.fill_rows.ensures w.wider-width.ensures.lower_bound)
    ]
