-- `make` meets its contract. Assumes nothing.
use mathlib.Core.Path.{refl}
use Rattle.ring_edit.specs.Calls.{make_edit}
use Rattle.ring_judge.proofs.Judged.{made}
use Rattle.ring_edit.proofs.Tables.{tabled_editable}
use Rattle.ring_row.proofs.TablesWritten.{edit_done}
use Rattle.ring_edit.proofs.Edited.{make_refused}
use Rattle.rings.proofs.Verdicts.{handed_on}
use Rattle.ring_edit.proofs.edits.make.Goals as goal

pub returns-in_err-judge_make : goal.returns-in_err-judge_make
returns-in_err-judge_make c =
    let t = make_refused _ _ _ _ _ c.in_err-judge_make.ensures in
    record { value = handed_on c.from_residual.ensures t.0; rings_after = t.1.0; valences_after = t.1.1 }

pub write_ring-requires : goal.write_ring-requires
write_ring-requires c =
    let m = made _ _ _ _ c.in_ok-judge_make.ensures in
    record { editable = tabled_editable _ _ _ m.tables; list_len_bound = m.most }

pub returns : goal.returns
unfolding make_edit
returns c =
    let a = c.args in
    let t = edit_done _ _ _ c.in_ok-judge_make.ensures refl _ refl _ _ c.write_ring.ensures.rings_after c.write_ring.ensures.valences_after in
    record { value = c.in_ok-judge_make.ensures; rings_after = t.0; valences_after = t.1 }
