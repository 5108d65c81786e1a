-- `insert_beside` meets its contract. Assumes nothing.
use native.Mathlib.Omega.{arith}
use mathlib.Core.Path.{◌≡◌, sym, ◌∙◌}
use Rattle.mesh.specs.Ring.{place_of}
use Rattle.rings.specs.Table.{lent, ring_of}
use Rattle.ring_judge.proofs.Judged.{called, entered}
use Rattle.ring_edit.proofs.Tables.{found}
use Rattle.ring_edit.proofs.Edited.{beside_refused, beside_idle, beside_done}
use Rattle.std.specs.declared.option.Option.TheVariants.{Some}
use Rattle.rings.proofs.Verdicts.{handed_on}
use Rattle.ring_edit.proofs.edits.insert_beside.Goals as goal

pub returns-in_err-judge_entry : goal.returns-in_err-judge_entry
returns-in_err-judge_entry c =
    let t = beside_refused _ _ _ _ _ _ _ c.in_err-judge_entry.ensures in
    record { value = handed_on c.from_residual.ensures t.0; rings_after = t.1.0; valences_after = t.1.1 }

pub place_in-requires : goal.place_in-requires
place_in-requires c =
    (called _ _ _ (entered _ _ _ _ c.in_ok-judge_entry.ensures).call).row

pub returns-in_default : goal.returns-in_default
returns-in_default c =
    let t =
    beside_idle _ _ _ _ _ c.in_ok-judge_entry.ensures _ (sym c.in_default.is ∙ c.place_in.ensures) in
    record { value = t.0; rings_after = t.1.0; valences_after = t.1.1 }

pub overflow_add-behind : goal.overflow_add-behind
overflow_add-behind c =
    let at : let a = c.args in Some c.in-Some.i ≡ place_of a.a (ring_of (lent a.valences.now a.rings.now) a.v) = sym c.in-Some.is ∙ c.place_in.ensures in
    let f = found _ _ _ (entered _ _ _ _ c.in_ok-judge_entry.ensures).call _ _ at in
    omega arith

pub insert_at-requires : goal.insert_at-requires
insert_at-requires c =
    let at : let a = c.args in Some c.in-Some.i ≡ place_of a.a (ring_of (lent a.valences.now a.rings.now) a.v) = sym c.in-Some.is ∙ c.place_in.ensures in
    let e = entered _ _ _ _ c.in_ok-judge_entry.ensures in
    let f = found _ _ _ e.call _ _ at in
    record { editable = f.0; i_bound = omega arith; v_bound = f.1.1; x_lt_place_bound = e.small }

pub returns : goal.returns
returns c =
    let t =
    let at : let a = c.args in Some c.in-Some.i ≡ place_of a.a (ring_of (lent a.valences.now a.rings.now) a.v) = sym c.in-Some.is ∙ c.place_in.ensures in
    beside_done _ _ _ _ _ c.in_ok-judge_entry.ensures _ _ at _ _ _ (c.insert_at.ensures.value, (c.insert_at.ensures.rings_after, c.insert_at.ensures.valences_after)) in
    record { value = t.0; rings_after = t.1.0; valences_after = t.1.1 }
