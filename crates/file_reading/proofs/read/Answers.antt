-- `read` meets its contract. Assumes nothing.
use mathlib.Core.Path.{sym, subst, ◌∙◌}
use Rattle.rings.proofs.Checks.{told_most, long_tables}
use Rattle.file_format.specs.Layout.{file_count}
use Rattle.file_format.specs.Judging.{Rows}
use Rattle.file_format.proofs.Judging.{first_fits, Good, good}
use Rattle.file_reading.proofs.RowsRead.{read_broken, read_bad, read_short, read_done}
use Rattle.rings.proofs.Verdicts.{handed_on}
use Rattle.file_reading.proofs.read.Goals as goal

pub two_at-count-requires : goal.two_at-count-requires
two_at-count-requires c =
    let laid : Good c.args.bytes.now = good _ (sym c.in_ok-judge.ensures) in
    first_fits _ laid.rows.first

pub returns-then-is_bad_count : goal.returns-then-is_bad_count
returns-then-is_bad_count c =
    let t =
    read_bad _ _ _ c.in_ok-judge.ensures _ c.two_at-count.ensures.value c.is_bad_count.ensures c.if-is_bad_count.true in
    record { value = t.0; valences_after = t.1.0; rings_after = t.1.1.0; positions_after = t.1.1.1 }

pub is_short-requires : goal.is_short-requires
is_short-requires c = told_most _ _ c.is_bad_count.ensures c.if-is_bad_count.false

pub returns-then-is_short : goal.returns-then-is_short
returns-then-is_short c =
    let t =
    read_short _ _ _ c.in_ok-judge.ensures _
    c.two_at-count.ensures.value c.is_bad_count.ensures
    c.if-is_bad_count.false c.is_short.ensures c.if-is_short.true in
    record { value = t.0; valences_after = t.1.0; rings_after = t.1.1.0; positions_after = t.1.1.1 }

pub read_rows-requires : goal.read_rows-requires
unfolding file_count
read_rows-requires c =
    let laid : Good c.args.bytes.now = good _ (sym c.in_ok-judge.ensures) in
    let r = long_tables _ _ _ (sym c.is_short.ensures ∙ c.if-is_short.false) in
    record { rows = subst (Rows _) (sym c.two_at-count.ensures.value) laid.rows; count_in_bounds = r.0.valences; most_valence_in_bounds = r.0.rings; count_in_bounds_2 = r.1 }

pub returns-in_err-judge : goal.returns-in_err-judge
returns-in_err-judge c =
    let t = read_broken _ _ _ _ c.in_err-judge.ensures in
    record { value = handed_on c.from_residual.ensures t.0; valences_after = t.1.0; rings_after = t.1.1.0; positions_after = t.1.1.1 }

pub returns : goal.returns
returns c =
    let t =
    read_done _ _ _ c.in_ok-judge.ensures _ c.two_at-count.ensures.value c.is_bad_count.ensures c.if-is_bad_count.false c.is_short.ensures c.if-is_short.false c.read_rows.ensures.put c.read_rows.ensures.put_2 c.read_rows.ensures.put_3 in
    record { value = t.0; valences_after = t.1.0; rings_after = t.1.1.0; positions_after = t.1.1.1 }
