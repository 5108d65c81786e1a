-- `judge` meets its contract. Assumes nothing.
use borrow.Author.Rules.{rules}
use mathlib.Core.Path.{◌≡◌}
use mathlib.Core.Bool.{true}
use Prim.Native.Nat.{◌+◌, ◌≤◌}
use lib.ListN.{length}
use Rattle.file_format.specs.Layout.{is_first}
use Rattle.file_format.proofs.Judging.{first_fits, first_good, judged_first, judged_row, judged_last, last_fits, judged_tail, judged_good}
use Rattle.file_format.proofs.layout.judge.Goals as goal

pub returns-then-not-is_record : goal.returns-then-not-is_record
returns-then-not-is_record c = judged_first _ c.is_record.ensures c.if-not-is_record.true-raw

pub two_at-count-requires : goal.two_at-count-requires
two_at-count-requires c =
    let opens : is_first c.args.bytes.now ≡ true = first_good _ c.is_record.ensures c.if-not-is_record.false-raw in
    first_fits _ opens

pub past_rows-reached-requires : goal.past_rows-reached-requires
past_rows-reached-requires c =
    let opens : is_first c.args.bytes.now ≡ true = first_good _ c.is_record.ensures c.if-not-is_record.false-raw in
    opens

pub returns-then-reached-count : goal.returns-then-reached-count
returns-then-reached-count c =
    let opens : is_first c.args.bytes.now ≡ true = first_good _ c.is_record.ensures c.if-not-is_record.false-raw in
    judged_row _ opens _ c.two_at-count.ensures.value _ _ c.past_rows-reached.ensures c.if-reached-count.true

pub returns-then-not-is_record-2 : goal.returns-then-not-is_record-2
returns-then-not-is_record-2 c =
    let opens : is_first c.args.bytes.now ≡ true = first_good _ c.is_record.ensures c.if-not-is_record.false-raw in
    judged_last _ opens _ c.two_at-count.ensures.value _ _
    c.past_rows-reached.ensures c.if-reached-count.false c.is_record-2.ensures c.if-not-is_record-2.true-raw

pub overflow_add-at : goal.overflow_add-at
overflow_add-at c =
    let opens : is_first c.args.bytes.now ≡ true = first_good _ c.is_record.ensures c.if-not-is_record.false-raw in
    let ends : c.past_rows-reached.result.at + 6 ≤ length c.args.bytes.now = last_fits _ opens _ c.two_at-count.ensures.value _ _
    c.past_rows-reached.ensures c.if-reached-count.false c.is_record-2.ensures c.if-not-is_record-2.false-raw in
    let h = ends in search rules

pub overflow_add-result : goal.overflow_add-result
overflow_add-result c =
    let opens : is_first c.args.bytes.now ≡ true = first_good _ c.is_record.ensures c.if-not-is_record.false-raw in
    let ends : c.past_rows-reached.result.at + 6 ≤ length c.args.bytes.now = last_fits _ opens _ c.two_at-count.ensures.value _ _
    c.past_rows-reached.ensures c.if-reached-count.false c.is_record-2.ensures c.if-not-is_record-2.false-raw in
    let h = ends in search rules

pub returns-then-at-bytes : goal.returns-then-at-bytes
returns-then-at-bytes c =
    let opens : is_first c.args.bytes.now ≡ true = first_good _ c.is_record.ensures c.if-not-is_record.false-raw in
    judged_tail _ opens _ c.two_at-count.ensures.value _ _
    c.past_rows-reached.ensures c.if-reached-count.false c.is_record-2.ensures c.if-not-is_record-2.false-raw
    c.if-at-bytes.true

pub returns : goal.returns
returns c =
    let opens : is_first c.args.bytes.now ≡ true = first_good _ c.is_record.ensures c.if-not-is_record.false-raw in
    judged_good _ opens _ c.two_at-count.ensures.value _ _
    c.past_rows-reached.ensures c.if-reached-count.false c.is_record-2.ensures c.if-not-is_record-2.false-raw
    c.if-at-bytes.false
