-- `check` meets its contract. Assumes nothing.
use mathlib.Core.Path.{sym, ◌∙◌}
use Rattle.rings.proofs.Accepted.{accepted_only, check_counts, check_refused}
use Rattle.rings.proofs.Verdicts.{handed_on}
use Rattle.check_mesh.proofs.check.Goals as goal

pub counts-requires : goal.counts-requires
counts-requires c =
    let a = accepted_only _ _ _ (sym c.in_ok-judge.ensures) in
    record { count_in_bounds = a.room.valences; count_le_most_count = a.high }

pub returns-in_err-judge : goal.returns-in_err-judge
returns-in_err-judge c = handed_on c.from_residual.ensures (check_refused _ _ _ _ c.in_err-judge.ensures)

pub returns : goal.returns
returns c = c.counts.ensures ∙ check_counts _ _ _ c.in_ok-judge.ensures
