-- `replace` meets its contract. Assumes nothing.
use mathlib.Core.Path.{◌≡◌, sym, ◌∙◌}
use Rattle.mesh.specs.Ring.{place_of}
use Rattle.rings.specs.Table.{lent, ring_of}
use Rattle.ring_judge.proofs.Judged.{called, entered}
use Rattle.ring_edit.proofs.Tables.{found}
use Rattle.ring_row.proofs.TablesWritten.{valence_kept}
use Rattle.ring_edit.proofs.Edited.{replace_refused, replace_idle, replace_done}
use Rattle.std.specs.declared.option.Option.TheVariants.{Some}
use Rattle.rings.proofs.Verdicts.{handed_on}
use Rattle.ring_edit.proofs.edits.replace.Goals as goal

pub returns-in_err-judge_entry : goal.returns-in_err-judge_entry
returns-in_err-judge_entry c =
    let t = replace_refused _ _ _ _ _ _ c.in_err-judge_entry.ensures in
    record { value = handed_on c.from_residual.ensures t.0; rings_after = t.1.0; valences_after = t.1.1 }

pub place_in-requires : goal.place_in-requires
place_in-requires c =
    (called _ _ _ (entered _ _ _ _ c.in_ok-judge_entry.ensures).call).row

pub returns-in_default : goal.returns-in_default
returns-in_default c =
    let t =
    replace_idle _ _ _ _ _ c.in_ok-judge_entry.ensures (sym c.in_default.is ∙ c.place_in.ensures) in
    record { value = t.0; rings_after = t.1.0; valences_after = t.1.1 }

pub replace_at-requires : goal.replace_at-requires
replace_at-requires c =
    let at : let a = c.args in Some c.in-Some.i ≡ place_of a.a (ring_of (lent a.valences.now a.rings.now) a.v) = sym c.in-Some.is ∙ c.place_in.ensures in
    let e = entered _ _ _ _ c.in_ok-judge_entry.ensures in
    let f = found _ _ _ e.call _ _ at in
    record { editable = f.0; i_bound = f.1.0; v_bound = f.1.1; x_lt_place_bound = e.small }

pub returns : goal.returns
returns c =
    let t =
    let at : let a = c.args in Some c.in-Some.i ≡ place_of a.a (ring_of (lent a.valences.now a.rings.now) a.v) = sym c.in-Some.is ∙ c.place_in.ensures in
    let j = c.in_ok-judge_entry.ensures in
    let f = found _ _ _ (entered _ _ _ _ j).call _ _ at in
    replace_done _ _ _ _ _ j _ at _ _ c.replace_at.ensures (valence_kept _ _ f.0 f.1.1 _ _) in
    record { value = t.0; rings_after = t.1.0; valences_after = t.1.1 }
