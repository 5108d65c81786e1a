-- `judge_block` meets its contract. Assumes nothing.
use native.Mathlib.Omega.{arith}
use Rattle.off_judge.proofs.Stepping.{rows_passed, stepped_past, stepped_wider, stepped_narrow, stepped_wide}
use Rattle.off_judge.proofs.judge_block.Goals as goal
use Rattle.off_judge.proofs.judge_block.Goals.{else-width-counts-via-then-width-counts+else-width-lt-PLACES, else-width-counts-via-else-width-counts}

pub first_unfit-unfit-requires : goal.first_unfit-unfit-requires
first_unfit-unfit-requires c =
    let t = rows_passed c.args.text.now c.rows_of-rows.ensures c.requires.tables c.gather_faces.ensures.same_room c.requires.at_lt_count c.stop_row-j.ensures in
    record { rows_in_bounds = t.0; rows_bound = t.1 }

pub overflow_add-at : goal.overflow_add-at
overflow_add-at c =
    let t = rows_passed c.args.text.now c.rows_of-rows.ensures c.requires.tables c.gather_faces.ensures.same_room c.requires.at_lt_count c.stop_row-j.ensures in
    omega (arith, t.1)

pub returns-then-rows-j-clause-stepped : goal.returns-then-rows-j-clause-stepped
returns-then-rows-j-clause-stepped c =
    stepped_past c.requires.face_lines c.gather_faces.ensures.gathered c.requires.sofar c.rows_of-rows.ensures
    c.requires.count_value c.requires.at_lt_count c.stop_row-j.ensures c.first_unfit-unfit.ensures c.if-rows-j.true c.narrower.ensures

pub returns-then-width-lt-PLACES-clause-stepped : goal.returns-then-width-lt-PLACES-clause-stepped
returns-then-width-lt-PLACES-clause-stepped c =
    stepped_wider c.requires.face_lines c.gather_faces.ensures.gathered c.requires.sofar c.rows_of-rows.ensures
    c.requires.count_value c.requires.at_lt_count c.stop_row-j.ensures c.first_unfit-unfit.ensures c.if-rows-j.false
    c.wider.ensures.width_2 c.wider.ensures.lower_bound

pub returns-else-width-counts-clause-stepped : goal.returns-else-width-counts-clause-stepped
returns-else-width-counts-clause-stepped c =
    elim c.else-width-counts.branch [
      | else-width-counts-via-then-width-counts+else-width-lt-PLACES w ↦
          stepped_wide c.requires.face_lines c.gather_faces.ensures.gathered c.requires.sofar c.rows_of-rows.ensures c.requires.count_value
          c.requires.at_lt_count c.stop_row-j.ensures c.first_unfit-unfit.ensures c.if-rows-j.false w.if-width-lt-PLACES.false w.if-width-counts.true
      | else-width-counts-via-else-width-counts w ↦
          stepped_narrow c.requires.face_lines c.gather_faces.ensures.gathered c.requires.sofar c.rows_of-rows.ensures c.requires.count_value
          c.requires.at_lt_count c.stop_row-j.ensures c.first_unfit-unfit.ensures c.if-rows-j.false w.if-width-counts.false
    ]
