-- To be believed.
-- Reading a file: 17, then 2 and 1, and V where it is accepted; the tables get the file's rows.
-- Assumes nothing.
use Rattle.std.specs.Prelude.{List, ℕ, ℤ, Ok}
use Rattle.rings.specs.Table.{Lent, put, valence_rows, ring_rows, point_rows}
use Rattle.rings.specs.Verdict.{refuse_if, and_then, after, with_amount}
use Rattle.rings.specs.Check.{bad_count, short_tables}
use Rattle.rings.specs.declared.Refusal.TheVariants.{TableTooShort, VertexCount}
use Rattle.file_format.specs.Layout.{file_count, file_ring, file_point, file_verdict}
use Rattle.rings.specs.Refusal.{Amount, Verdict}

module _ (s : List ℕ) (t : Lent) (ps : List ℤ) where
  -- 17, then 2 and 1
  unfoldable pub read_verdict : Verdict
  read_verdict = and_then (file_verdict s) (refuse_if (bad_count (file_count s)) VertexCount (refuse_if (short_tables (file_count s) t ps) TableTooShort (Ok tt)))

  -- V
  unfoldable pub read_answer : Amount
  read_answer = with_amount read_verdict (file_count s)

  -- the valences after the call
  unfoldable pub read_valences : List ℕ
  read_valences = after read_verdict (put t.valences 0 (valence_rows (file_ring s) (file_count s))) t.valences

  -- the rings after the call
  unfoldable pub read_rings : List ℕ
  read_rings = after read_verdict (put t.rings 0 (ring_rows (file_ring s) (file_count s))) t.rings

  -- the positions after the call
  unfoldable pub read_positions : List ℤ
  read_positions = after read_verdict (put ps 0 (point_rows (file_point s) (file_count s))) ps
