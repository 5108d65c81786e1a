-- `write` meets its contract. Assumes nothing.
use native.Mathlib.Omega.{arith}
use mathlib.Core.Path.{sym, ◌∙◌}
use Rattle.rings.specs.Table.{lent}
use Rattle.rings.proofs.Checks.{told_most, long_tables}
use Rattle.file_writing.specs.Storing.{Stored}
use Rattle.file_writing.proofs.RowsWritten.{stored, file_put, write_bad, write_short, write_over, write_full, write_done}
use Rattle.file_writing.proofs.write.Goals as goal

pub returns-then-is_bad_count : goal.returns-then-is_bad_count
returns-then-is_bad_count c =
    let t = write_bad _ _ _ _ c.is_bad_count.ensures c.if-is_bad_count.true in
    record { value = t.0; file_after = t.1 }

pub is_short-requires : goal.is_short-requires
is_short-requires c = told_most _ _ c.is_bad_count.ensures c.if-is_bad_count.false

pub returns-then-is_short : goal.returns-then-is_short
returns-then-is_short c =
    let t = write_short _ _ _ _ c.is_bad_count.ensures c.if-is_bad_count.false c.is_short.ensures c.if-is_short.true in
    record { value = t.0; file_after = t.1 }

pub first_over-over-requires : goal.first_over-over-requires
first_over-over-requires c = (long_tables _ _ _ (sym c.is_short.ensures ∙ c.if-is_short.false)).0.valences

pub returns-then-over-count : goal.returns-then-over-count
returns-then-over-count c =
    let t = write_over _ _ _ _ c.is_bad_count.ensures c.if-is_bad_count.false
    c.is_short.ensures c.if-is_short.false _ c.first_over-over.ensures c.if-over-count.true in
    record { value = t.0; file_after = t.1 }

pub rows_length-size-requires : goal.rows_length-size-requires
rows_length-size-requires c =
    let held : let a = c.args in Stored a.count (lent a.valences.now a.rings.now) a.positions.now = stored _ _ _ c.args.file.now
    c.is_bad_count.ensures c.if-is_bad_count.false c.is_short.ensures
    c.if-is_short.false _ c.first_over-over.ensures c.if-over-count.false in
    record { count_in_bounds = held.room.valences; count_le_most_count = told_most _ _ c.is_bad_count.ensures c.if-is_bad_count.false }

pub returns-then-file-size : goal.returns-then-file-size
returns-then-file-size c =
    let t = write_full _ _ _ _ c.is_bad_count.ensures c.if-is_bad_count.false
    c.is_short.ensures c.if-is_short.false _ c.first_over-over.ensures
    c.if-over-count.false _ c.rows_length-size.ensures.value c.if-file-size.true in
    record { value = t.0; file_after = t.1 }

pub put_two-requires : goal.put_two-requires
put_two-requires c =
    let a = c.put_head.auto.file in
    let r = c.if-file-size.false in
    omega arith

pub put_rows-at-requires : goal.put_rows-at-requires
put_rows-at-requires c =
    let held : let a = c.args in Stored a.count (lent a.valences.now a.rings.now) a.positions.now = stored _ _ _ c.args.file.now
    c.is_bad_count.ensures c.if-is_bad_count.false c.is_short.ensures
    c.if-is_short.false _ c.first_over-over.ensures c.if-over-count.false in
    let a = c.put_head.auto.file in
    let d = c.put_two.auto.file in
    let r = c.if-file-size.false in
    let s = c.rows_length-size.ensures.value in
    record { count_in_bounds = omega arith; stored = held }

pub put_head-requires-2 : goal.put_head-requires-2
put_head-requires-2 c =
    let a = c.put_head.auto.file in
    let d = c.put_two.auto.file in
    let e = c.put_rows-at.auto.file in
    let f = c.put_rows-at.ensures.value in
    let r = c.if-file-size.false in
    let s = c.rows_length-size.ensures.value in
    omega arith

pub returns : goal.returns
returns c =
    let t = let held : let a = c.args in Stored a.count (lent a.valences.now a.rings.now) a.positions.now = stored _ _ _ c.args.file.now
    c.is_bad_count.ensures c.if-is_bad_count.false c.is_short.ensures
    c.if-is_short.false _ c.first_over-over.ensures c.if-over-count.false in
    let w =
    file_put held
    c.put_head.ensures
    c.put_two.ensures
    c.put_rows-at.ensures.put c.put_head-2.ensures
    c.put_rows-at.ensures.value in
    write_done _ _ _ _ c.is_bad_count.ensures c.if-is_bad_count.false c.is_short.ensures c.if-is_short.false _ c.first_over-over.ensures c.if-over-count.false _ c.rows_length-size.ensures.value c.if-file-size.false w in
    record { value = t.0; file_after = t.1 }
