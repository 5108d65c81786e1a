-- `place_after` meets its contract. Assumes nothing.
use borrow.Author.Rules.{rules}
use Rattle.file_format.proofs.Finding.{told_past}
use Rattle.file_format.proofs.records.place_after.Goals as goal

pub returns : goal.returns
returns c = told_past _ _ _ _ _ c.record_at.ensures c.map_or.ensures (λ r h. search rules)
