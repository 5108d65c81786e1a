-- `put_read` meets its contract. Assumes nothing.
use native.Mathlib.Omega.{arith}
use Rattle.numerals.proofs.Writing.{wrote_is, wrote_wide}
use Rattle.listing_text.proofs.Outcome.{read_refused, read_counted}
use Rattle.listing_text.proofs.put_read.Goals as goal

pub returns-in-Err : goal.returns-in-Err
returns-in-Err c =
    wrote_is
    (read_refused _ _ _ c.in-Err.is c.read.ensures.value)
    (wrote_wide 32768 (omega arith) c.put_refused.ensures)

pub returns-in-Ok : goal.returns-in-Ok
returns-in-Ok c =
    wrote_is (read_counted _ _ _ _ _ _ c.in-Ok.is c.read.ensures.value c.read.ensures.valences_after c.read.ensures.rings_after c.read.ensures.positions_after) c.put_refined.ensures
