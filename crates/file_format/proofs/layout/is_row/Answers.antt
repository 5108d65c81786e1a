-- `is_row` meets its contract. Assumes nothing.
use mathlib.Core.Path.{◌∙◌}
use Rattle.file_format.proofs.Judging.{row_cut, row_not, row_by}
use Rattle.file_format.proofs.layout.is_row.Goals as goal

pub returns-then-bytes-at-lt20 : goal.returns-then-bytes-at-lt20
returns-then-bytes-at-lt20 c = row_cut _ _ c.requires c.if-bytes-at-lt20.true

pub returns-then-is_record : goal.returns-then-is_record
returns-then-is_record c = row_by _ _ _ c.two_at-n.ensures.value c.is_record.ensures c.if-is_record.true

pub returns-else-is_record : goal.returns-else-is_record
returns-else-is_record c = c.if-is_record.false ∙ row_not _ _ _ c.two_at-n.ensures.value c.is_record.ensures c.if-is_record.false
