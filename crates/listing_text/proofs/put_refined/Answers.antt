-- `put_refined` meets its contract. Assumes nothing.
use native.Mathlib.Omega.{arith}
use mathlib.Core.Path.{sym, ◌∙◌}
use Rattle.numerals.proofs.Writing.{wrote_is, wrote_wide}
use Rattle.listing_text.proofs.Outcome.{level_fits, level_refused, level_counted}
use Rattle.rings.specs.Table.{lent}
use Rattle.listing_text.proofs.put_refined.Goals as goal

pub put_level-requires : goal.put_level-requires
put_level-requires c =
    let a = c.args in
    let h =
    level_fits a.count (lent a.valences.now a.rings.now) a.positions.now _ _ _
    (sym c.in-Ok.is ∙ c.refine.ensures.value) in
    let k = c.refine.auto in
    record { v_in_bounds = omega arith; v_in_bounds_2 = omega arith; v_in_bounds_3 = omega arith }

pub returns-in-Err : goal.returns-in-Err
returns-in-Err c =
    wrote_is
    (level_refused _ _ _ c.in-Err.is c.refine.ensures.value)
    (wrote_wide 32768 (omega arith) c.put_refused.ensures)

pub returns-in-Ok : goal.returns-in-Ok
returns-in-Ok c =
    let a = c.args in
    let h = level_fits a.count (lent a.valences.now a.rings.now) a.positions.now _ _ _ (sym c.in-Ok.is ∙ c.refine.ensures.value) in
    wrote_is (level_counted _ _ _ _ c.in-Ok.is c.refine.ensures.value c.refine.ensures.valences_after c.refine.ensures.positions_after) (wrote_wide 32768 (omega arith) c.put_level.ensures)
