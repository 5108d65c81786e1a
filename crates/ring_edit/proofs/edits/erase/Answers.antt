-- `erase` meets its contract. Assumes nothing.
use mathlib.Core.Path.{◌≡◌, sym, ◌∙◌}
use Rattle.mesh.specs.Ring.{place_of}
use Rattle.rings.specs.Table.{lent, ring_of}
use Rattle.ring_judge.proofs.Judged.{called}
use Rattle.ring_edit.proofs.Tables.{found}
use Rattle.ring_edit.proofs.Edited.{erase_refused, erase_idle, erase_done}
use Rattle.std.specs.declared.option.Option.TheVariants.{Some}
use Rattle.rings.proofs.Verdicts.{handed_on}
use Rattle.ring_edit.proofs.edits.erase.Goals as goal

pub returns-in_err-judge_call : goal.returns-in_err-judge_call
returns-in_err-judge_call c =
    let t = erase_refused _ _ _ _ _ c.in_err-judge_call.ensures in
    record { value = handed_on c.from_residual.ensures t.0; rings_after = t.1.0; valences_after = t.1.1 }

pub place_in-requires : goal.place_in-requires
place_in-requires c =
    (called _ _ _ c.in_ok-judge_call.ensures).row

pub returns-in_default : goal.returns-in_default
returns-in_default c =
    let t =
    erase_idle _ _ _ _ c.in_ok-judge_call.ensures (sym c.in_default.is ∙ c.place_in.ensures) in
    record { value = t.0; rings_after = t.1.0; valences_after = t.1.1 }

pub erase_at-requires : goal.erase_at-requires
erase_at-requires c =
    let t =
    let at : let a = c.args in Some c.in-Some.i ≡ place_of a.x (ring_of (lent a.valences.now a.rings.now) a.v) = sym c.in-Some.is ∙ c.place_in.ensures in
    found _ _ _ c.in_ok-judge_call.ensures _ _ at in
    record { editable = t.0; i_bound = t.1.0; v_bound = t.1.1 }

pub returns : goal.returns
returns c =
    let t =
    let at : let a = c.args in Some c.in-Some.i ≡ place_of a.x (ring_of (lent a.valences.now a.rings.now) a.v) = sym c.in-Some.is ∙ c.place_in.ensures in
    erase_done _ _ _ _ c.in_ok-judge_call.ensures _ at _ _ c.erase_at.ensures.rings_after c.erase_at.ensures.valences_after in
    record { value = t.0; rings_after = t.1.0; valences_after = t.1.1 }
