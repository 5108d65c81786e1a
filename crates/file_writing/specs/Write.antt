-- To be believed.
-- Writing a file: 2, 1, 4 where a valence is over 32, 10, and the number of bytes where it is accepted. The file itself is the grammar that reading judges: one record with V, the rows, one last record.
-- Assumes nothing.
use Rattle.std.specs.Prelude.{Bool, List, [], ◌++◌, ℕ, ◌+◌, ◌*◌, ltb, ℤ, length, get_or, Ok}
use Rattle.mesh.specs.Limits.{most_valence}
use Rattle.mesh.specs.Search.{sum}
use Rattle.rings.specs.Table.{Lent, gather, put, ring_of, coordinate_at}
use Rattle.rings.specs.Verdict.{refuse_if, refuse_at, after, with_amount}
use Rattle.rings.specs.Check.{bad_count, short_tables}
use Rattle.rings.specs.declared.Refusal.TheVariants.{TableTooShort, VertexCount, RingImproper, NoRoom}
use Rattle.file_format.specs.Bytes.{bytes_of, bits_of, record_of}
use Rattle.file_rings.specs.Neighbours.{neighbour_bytes}
use Rattle.rings.specs.Refusal.{Amount, Verdict}

-- the payload of a row: three coordinates in four bytes each, the valence in two, and the neighbours in two each
unfoldable pub payload_of : List ℕ → (ℕ → ℤ) → List ℕ
payload_of ring point =
    bytes_of 4 (bits_of (point 0)) ++ (bytes_of 4 (bits_of (point 1)) ++ (bytes_of 4 (bits_of (point 2)) ++ (bytes_of 2 (length ring) ++ gather (neighbour_bytes ring) (length ring))))

-- row v
abbrev pub row_bytes : (ℕ → List ℕ) → (ℕ → ℕ → ℤ) → ℕ → List ℕ
row_bytes ring point v = record_of 2 (payload_of (ring v) (λ axis. point axis v))

-- the file of n vertices with these rings and points
unfoldable pub file_of : ℕ → (ℕ → List ℕ) → (ℕ → ℕ → ℤ) → List ℕ
file_of n ring point = record_of 1 (bytes_of 2 n) ++ (gather (row_bytes ring point) n ++ record_of 3 [])

-- the bytes of the first n rows, by their valences
unfoldable pub rows_length : List ℕ → ℕ → ℕ
rows_length vs n = sum (λ v. 20 + 2 * get_or vs v 0) n

-- a valence over 32
abbrev pub over_most : List ℕ → ℕ → Bool
over_most vs v = ltb most_valence (get_or vs v 0)

module _ (n : ℕ) (t : Lent) (ps : List ℤ) (room : List ℕ) where
  -- the file of the tables
  abbrev pub bytes : List ℕ
  bytes = file_of n (ring_of t) (coordinate_at ps)

  -- 2, 1, 4 for a valence over 32, 10
  unfoldable pub write_verdict : Verdict
  write_verdict =
      refuse_if (bad_count n) VertexCount
      (refuse_if (short_tables n t ps) TableTooShort
      (refuse_at (over_most t.valences) n RingImproper
      (refuse_if (ltb (length room) (length bytes)) NoRoom
      (Ok tt))))

  -- the number of bytes
  unfoldable pub write_answer : Amount
  write_answer = with_amount write_verdict (length bytes)

  -- the file room after the call
  unfoldable pub write_room : List ℕ
  write_room = after write_verdict (put room 0 bytes) room
