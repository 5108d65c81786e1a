-- `past_rows` meets its contract. Assumes nothing.
use Rattle.std.proofs.Common.{◌≡◌, true, false, arith}
use Rattle.file_format.specs.Layout.{is_row}
use Rattle.file_format.specs.Records.{past_at}
use Rattle.file_format.proofs.Judging.{reaches_first, reaches_next, reaches_fault, reaches_end}
use Rattle.file_format.proofs.layout.past_rows.Goals as goal

pub loop-row-init : goal.loop-row-init
loop-row-init c =
    let e : c.advanced-records.result.at ≡ past_at c.args.bytes.now 0 = cc in
    record { same_bytes = cc; reached = reaches_first _ _ c.requires e }

pub returns-then-not-is_row : goal.returns-then-not-is_row
returns-then-not-is_row c =
    let t : is_row c.args.bytes.now c.loop-row.records.at ≡ false = cc in
    reaches_fault _ _ _ _ c.loop-row.invariant.reached c.loop-row-test.true t

pub loop-row-preserved : goal.loop-row-preserved
loop-row-preserved c =
    let t : is_row c.args.bytes.now c.loop-row.records.at ≡ true = cc in
    let e : c.advanced-records-in-loop-row.result.at ≡ past_at c.args.bytes.now c.loop-row.records.at = cc in
    record { same_bytes = cc; reached = reaches_next _ _ _ _ c.loop-row.invariant.reached t e }

pub returns : goal.returns
returns c = reaches_end _ _ _ _ c.loop-row.invariant.reached (omega arith)
