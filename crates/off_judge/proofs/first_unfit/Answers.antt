-- `first_unfit` meets its contract. Assumes nothing.
use Rattle.off_judge.proofs.Faulty.{unfit_known, unfit_found, unfit_none}
use Rattle.off_judge.proofs.first_unfit.Goals as goal

pub returns-then-known-count : goal.returns-then-known-count
returns-then-known-count c = unfit_known _ _ _ _ _ c.if-known-count.true

pub returns-then-j-rows : goal.returns-then-j-rows
returns-then-j-rows c = unfit_found _ _ _ _ _ c.if-known-count.false c.unfit_row-j.ensures c.if-j-rows.true

pub returns-else-j-rows : goal.returns-else-j-rows
returns-else-j-rows c = unfit_none _ _ _ _ _ c.if-known-count.false c.unfit_row-j.ensures c.if-j-rows.false
