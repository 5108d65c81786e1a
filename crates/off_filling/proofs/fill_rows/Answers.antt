-- `fill_rows` meets its contract: the rows passed are written. Assumes nothing.
use native.Mathlib.Omega.{arith}
use Rattle.off_filling.proofs.RowsFilled.{filled_none, filled_row, valence_small}
use Rattle.off_filling.proofs.fill_rows.Goals as goal

pub loop-j-init : goal.loop-j-init
loop-j-init c = filled_none _ (omega arith) (omega arith)

pub overflow_cast-valences : goal.overflow_cast-valences
overflow_cast-valences c =
    omega (arith, valence_small _ c.requires.fillable c.requires.rows_bound c.requires.room c.requires.gathered c.requires.narrow c.loop-j-test.true c.loop-j.invariant)

pub fill_row-requires-clause-from_len_bound : goal.fill_row-requires-clause-from_len_bound
fill_row-requires-clause-from_len_bound c =
    omega (arith, valence_small _ c.requires.fillable c.requires.rows_bound c.requires.room c.requires.gathered c.requires.narrow c.loop-j-test.true c.loop-j.invariant)

pub loop-j-preserved : goal.loop-j-preserved
loop-j-preserved c =
    filled_row _ c.requires.fillable c.requires.rows_bound c.requires.room c.requires.gathered c.requires.narrow c.loop-j-test.true c.loop-j.invariant
    c.row_of.ensures.result_value c.row_of-in-loop-j.ensures.result_value c.fill_row.ensures
