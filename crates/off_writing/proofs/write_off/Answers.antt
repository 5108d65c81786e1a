-- `write_off` meets its contract. Assumes nothing.
use mathlib.Core.Path.{sym}
use native.Mathlib.Omega.{arith}
use Rattle.rings.specs.Table.{lent}
use Rattle.off_writing.proofs.TextWritten.{Checked, counts_tell, refusal_tells, size_is, check_refuses, room_refuses, accepted}
use Rattle.rings.proofs.Verdicts.{handed_on}
use Rattle.off_writing.proofs.write_off.Goals as goal

pub text_length-size-requires : goal.text_length-size-requires
text_length-size-requires c =
    let checked : let a = c.args in
    Checked a.count (lent a.valences.now a.rings.now) a.positions.now c.in_ok-counts.counts.e c.in_ok-counts.counts.f = counts_tell _ _ _ _ _ _ (sym c.in_ok-counts.ensures) in
    let k = checked in let A = k.accepts in
    record { count_in_bounds = A.room.valences; count_in_bounds_2 = A.points; count_le_most_count = A.high; f_bound = k.few_faces }

pub returns-then-text-size : goal.returns-then-text-size
returns-then-text-size c =
    let t = let checked : let a = c.args in
    Checked a.count (lent a.valences.now a.rings.now) a.positions.now c.in_ok-counts.counts.e c.in_ok-counts.counts.f = counts_tell _ _ _ _ _ _ (sym c.in_ok-counts.ensures) in
    let k = checked in
    let e = size_is _ _ _ k c.text_length-size.ensures in
    room_refuses _ _ _ _ k.passes (omega (arith, c.if-text-size.true)) in
    record { value = t.0; text_after = t.1 }

pub put_text-requires : goal.put_text-requires
put_text-requires c =
    let checked : let a = c.args in
    Checked a.count (lent a.valences.now a.rings.now) a.positions.now c.in_ok-counts.counts.e c.in_ok-counts.counts.f = counts_tell _ _ _ _ _ _ (sym c.in_ok-counts.ensures) in
    let k = checked in
    let e = size_is _ _ _ k c.text_length-size.ensures in
    record { accepts = k.accepts; e_value = k.e_is; f_value = k.f_is; positions_in_bounds = omega (arith, c.if-text-size.false) }

pub returns-in_err-counts : goal.returns-in_err-counts
returns-in_err-counts c =
    let t = check_refuses _ _ _ _ _ (refusal_tells _ _ _ _ (sym c.in_err-counts.ensures)) in
    record { value = handed_on c.from_residual.ensures t.0; text_after = t.1 }

pub returns : goal.returns
returns c =
    let t = let checked : let a = c.args in
    Checked a.count (lent a.valences.now a.rings.now) a.positions.now c.in_ok-counts.counts.e c.in_ok-counts.counts.f = counts_tell _ _ _ _ _ _ (sym c.in_ok-counts.ensures) in
    let k = checked in
    accepted _ _ _ _ k.passes (size_is _ _ _ k c.text_length-size.ensures) c.put_text.ensures in
    record { value = t.0; text_after = t.1 }
