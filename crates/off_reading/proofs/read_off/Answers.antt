-- `read_off` meets its contract. Assumes nothing.
use mathlib.Core.Path.{sym}
use Rattle.rings.proofs.Checks.{told_most}
use Rattle.rings.proofs.Verdicts.{handed_on}
use Rattle.off_reading.proofs.TextRead.{whole_told, refusal_told, text_refused, count_refused, short_refused}
use Rattle.off_reading.proofs.TextRead.{lines_known, lines_refused, lines_accepted}
use Rattle.off_reading.proofs.read_off.Goals as goal

pub returns-then-is_bad_count : goal.returns-then-is_bad_count
returns-then-is_bad_count c =
    let t = count_refused _ _ _ (whole_told _ _ (sym c.in_ok-count.ensures)) _ c.is_bad_count.ensures c.if-is_bad_count.true in
    record { value = t.0; valences_after = t.1.0; rings_after = t.1.1.0; positions_after = t.1.1.1 }

pub is_short-requires : goal.is_short-requires
is_short-requires c = told_most _ _ c.is_bad_count.ensures c.if-is_bad_count.false

pub returns-then-is_short : goal.returns-then-is_short
returns-then-is_short c =
    let t = short_refused _ _ _ (whole_told _ _ (sym c.in_ok-count.ensures)) _ c.is_bad_count.ensures c.if-is_bad_count.false _
    c.is_short.ensures c.if-is_short.true in
    record { value = t.0; valences_after = t.1.0; rings_after = t.1.1.0; positions_after = t.1.1.1 }

pub read_lines-requires : goal.read_lines-requires
read_lines-requires c =
    lines_known _ _ _ (whole_told _ _ (sym c.in_ok-count.ensures)) _ c.is_bad_count.ensures c.if-is_bad_count.false _
    c.is_short.ensures c.if-is_short.false

pub returns-in_err-count : goal.returns-in_err-count
returns-in_err-count c =
    let t = text_refused _ _ _ _ (refusal_told _ _ (sym c.in_err-count.ensures)) in
    record { value = handed_on c.from_residual.ensures t.0; valences_after = t.1.0; rings_after = t.1.1.0; positions_after = t.1.1.1 }

pub returns-in_err-read_lines : goal.returns-in_err-read_lines
returns-in_err-read_lines c =
    let t = lines_refused _ _ _ (whole_told _ _ (sym c.in_ok-count.ensures)) _ c.is_bad_count.ensures c.if-is_bad_count.false _
    c.is_short.ensures c.if-is_short.false
    c.read_lines.ensures.value c.read_lines.ensures.valences_after c.read_lines.ensures.rings_after c.read_lines.ensures.positions_after _ c.in_err-read_lines.was in
    record { value = handed_on c.from_residual-in_err-read_lines.ensures t.0; valences_after = t.1.0; rings_after = t.1.1.0; positions_after = t.1.1.1 }

pub returns : goal.returns
returns c =
    let t = lines_accepted _ _ _ (whole_told _ _ (sym c.in_ok-count.ensures)) _ c.is_bad_count.ensures c.if-is_bad_count.false _
    c.is_short.ensures c.if-is_short.false
    c.read_lines.ensures.value c.read_lines.ensures.valences_after c.read_lines.ensures.rings_after c.read_lines.ensures.positions_after c.in_ok-read_lines.was in
    record { value = t.0; valences_after = t.1.0; rings_after = t.1.1.0; positions_after = t.1.1.1 }
