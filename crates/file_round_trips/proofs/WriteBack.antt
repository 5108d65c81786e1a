-- A file that was read and is written again is the same bytes: `same_bytes`, an accepted layout is the file of its own rows; `write_back`, after an accepted reading a writing of the tables into a
-- room that is long enough is accepted with the file's length, and puts the file's bytes there. Assumes nothing.
use Prim.Native.Nat.{ℕ, zero, suc, ◌+◌, ◌-◌, ◌*◌, ◌≤◌, ◌<◌}
use mathlib.Core.Path.{◌≡◌, refl, sym, ap, subst, ◌∙◌}
use mathlib.Core.Bool.{false}
use mathlib.Core.List.{List, [], ◌∷◌, ◌++◌}
use native.Mathlib.Omega.{arith}
use borrow.Author.Tests.{le-ltb}
use lib.Dec.{ltb}
use lib.IntN.{ℤ}
use lib.ListN.{length, get_or, take}
use lib.Seq.{take-length}
use Rattle.rings.specs.Table.{Lent, lent, valence_at, put, gather, ring_of, coordinate_at, padded, valence_rows, ring_rows, point_rows}
use Rattle.rings.specs.Verdict.{refuse_if, refuse_at, after, with_amount}
use Rattle.rings.specs.Check.{bad_count, short_rings, short_tables}
use Rattle.rings.specs.declared.Refusal.TheVariants.{TableTooShort, VertexCount, RingImproper, NoRoom}
use Rattle.rings.proofs.Tables.{length_put, length_gather, gather_same, length_padded}
use Rattle.rings.proofs.Checks.{long_tables}
use Rattle.rings.proofs.Verdicts.{if_accepted, then_accepted, if_clear, at_clear}
use Rattle.file_format.specs.Bytes.{bytes_of, bits_of, coordinate_of, record_of, number_at, length_at, kind_at}
use Rattle.file_format.specs.Layout.{file_count, row_at, file_valence, file_ring, file_point, is_first, is_last, file_verdict}
use Rattle.file_reading.specs.Read.{read_verdict, read_answer, read_valences, read_rings, read_positions}
use Rattle.file_rings.specs.Neighbours.{neighbour_bytes}
use Rattle.file_writing.specs.Write.{payload_of, row_bytes, file_of, over_most, write_verdict, write_answer, write_room}
use Rattle.file_format.proofs.Finding.{record_kind, record_length, record_fits}
use Rattle.file_format.proofs.Judging.{IsRow, row_is, first_after, Good, good}
use Rattle.file_rings.proofs.RingRead.{length_ring}
use Rattle.file_writing.proofs.RowsWritten.{length_payload}
use Rattle.file_format.proofs.Gathered.{gather_one, length_rows_below}
use Rattle.file_round_trips.proofs.Inverse.{four_lt, bits_coordinate}
use Rattle.file_format.proofs.InTables.{answered, in_valence, in_ring, in_point}
use Rattle.file_round_trips.proofs.Parts.{Part, part_none, join, part_long, part_number}
use Rattle.std.specs.Prelude.{Ok}

-- ---- an accepted layout

module _ (s : List ℕ) (byte : (j : ℕ) → get_or s j 0 < 256) (g : Good s) where
  module _ (v : ℕ) (l : v < file_count s) where
    abbrev at : ℕ
    at = row_at s v

    there : IsRow s at
    there = row_is s at (g.rows.row v l)

    -- one coordinate
    coordinate : (axis j : ℕ) → j ≡ at + 6 + axis * 4 → j + 4 ≤ length s → Part s j 4 (bytes_of 4 (bits_of (file_point s axis v)))
    unfolding file_point
    coordinate axis j e h =
        part_number s byte 4 j (bits_of (file_point s axis v)) h (ap (λ (k : ℕ). bits_of (coordinate_of (number_at s k 4))) (sym e) ∙ bits_coordinate (number_at s j 4) (four_lt s byte j h))

    neighbour : (i : ℕ) → i < file_valence s at → get_or (file_ring s v) i 0 ≡ number_at s (at + 20 + i * 2) 2
    unfolding file_ring
    neighbour i h = gather_one (λ j. number_at s (at + 20 + j * 2) 2) (file_valence s at) i 0 h

    neighbours : (n : ℕ) → n ≤ file_valence s at → Part s (at + 20) (n * 2) (gather (neighbour_bytes (file_ring s v)) n)
    neighbours zero h = part_none
    neighbours (suc n) h =
        let f = there.fits in
        let e : n * 2 + 2 ≡ suc n * 2 = omega arith in
        part_long e (join (n * 2) 2 (neighbours n (omega arith)) (part_number s byte 2 (at + 20 + n * 2) (get_or (file_ring s v) n 0) (omega arith) (neighbour n (omega arith))) refl)

    row_part : Part s at (20 + 2 * file_valence s at) (row_bytes (file_ring s) (file_point s) v)
    unfolding record_of payload_of length_at kind_at file_valence
    row_part =
        let r = there in
        let f = r.fits in
        let n = file_valence s at in
        let ring = file_ring s v in
        let e : length ring ≡ n = length_ring s v in
        let size = length (payload_of ring (λ axis. file_point s axis v)) in
        let d : size ≡ length_at s at = let p = length_payload ring (λ axis. file_point s axis v) in let q = r.long in omega arith in
        let nb = subst (λ (k : ℕ). Part s (at + 20) (n * 2) (gather (neighbour_bytes ring) k)) (sym e) (neighbours n (omega arith)) in
        let w = join 2 (n * 2) (part_number s byte 2 (at + 18) (length ring) (omega arith) e) nb (omega arith) in
        let z = join 4 (2 + n * 2) (coordinate 2 (at + 14) (omega arith) (omega arith)) w (omega arith) in
        let y = join 4 (4 + (2 + n * 2)) (coordinate 1 (at + 10) (omega arith) (omega arith)) z (omega arith) in
        let x = join 4 (4 + (4 + (2 + n * 2))) (coordinate 0 (at + 6) (omega arith) (omega arith)) y (omega arith) in
        let k = join 2 (4 + (4 + (4 + (2 + n * 2)))) (part_number s byte 2 (at + 4) 2 (omega arith) (sym r.kind)) x (omega arith) in
        let h : 4 + (2 + (4 + (4 + (4 + (2 + n * 2))))) ≡ 20 + 2 * n = omega arith in
        part_long h (join 4 (2 + (4 + (4 + (4 + (2 + n * 2))))) (part_number s byte 4 at size (omega arith) d) k refl)

  row_low : (v : ℕ) → v ≤ file_count s → 8 ≤ row_at s v
  unfolding row_at
  row_low zero h = omega (arith, first_after s g.rows.first)
  row_low (suc v) h = omega (arith, (there v (omega arith)).next, row_low v (omega arith))

  rows_part : (v : ℕ) → v ≤ file_count s → (k : ℕ) → row_at s v ≡ 8 + k → Part s 8 k (gather (row_bytes (file_ring s) (file_point s)) v)
  unfolding row_at
  rows_part zero h k e = let a = first_after s g.rows.first in let z : 0 ≡ k = omega arith in part_long z part_none
  rows_part (suc v) h k e =
      let l : v < file_count s = omega arith in
      let a = (there v l).next in
      let m = row_at s v - 8 in
      let b = row_low v (omega arith) in
      let c : m + (20 + 2 * file_valence s (row_at s v)) ≡ k = omega arith in
      part_long c (join m (20 + 2 * file_valence s (row_at s v)) (rows_part v (omega arith) m (omega arith)) (row_part v l) (omega arith))

  -- the file of the rows that were read is the file
  pub same_bytes : file_of (file_count s) (file_ring s) (file_point s) ≡ s
  unfolding file_of record_of is_first is_last file_count length_at kind_at
  same_bytes =
      let n = file_count s in
      let at = row_at s n in
      let a = g.rows.first in
      let z = g.ends in
      let f = record_fits s 0 1 2 a in
      let low = row_low n (omega arith) in
      let head = join 4 4 (part_number s byte 4 0 2 (omega arith) (sym (record_length s 0 1 2 a)))
      (join 2 2 (part_number s byte 2 4 1 (omega arith) (sym (record_kind s 0 1 2 a))) (part_number s byte 2 6 n (omega arith) refl) refl) refl in
      let last =
      join 4 2 (part_number s byte 4 at 0 (omega arith) (sym (record_length s at 3 0 g.last)))
      (part_number s byte 2 (at + 4) 3 (omega arith) (sym (record_kind s at 3 0 g.last))) refl in
      let rows = rows_part n (omega arith) (at - 8) (omega arith) in
      (join 8 (at - 8 + 6) head (join (at - 8) 6 rows last (omega arith)) refl).is ∙ ap (λ (k : ℕ). take k s) (let e : 8 + (at - 8 + 6) ≡ length s = omega arith in e) ∙ take-length s

-- ---- an accepted reading

row_same : (ring ring' : List ℕ) (point point' : ℕ → ℤ) → ring ≡ ring' → ((axis : ℕ) → axis < 3 → point axis ≡ point' axis) → record_of 2 (payload_of ring point) ≡ record_of 2 (payload_of ring' point')
unfolding payload_of
row_same ring ring' point point' e h = rw (e, h 0 (omega arith), h 1 (omega arith), h 2 (omega arith))

-- a file is settled by the rows below its count
file_same : (n : ℕ) (ring ring' : ℕ → List ℕ) (point point' : ℕ → ℕ → ℤ) → ((v : ℕ) → v < n → ring v ≡ ring' v) → ((v : ℕ) → v < n → (axis : ℕ) → axis < 3 → point axis v ≡ point' axis v)
    → file_of n ring point ≡ file_of n ring' point'
unfolding file_of
file_same n ring ring' point point' e h =
    ap (λ (x : List ℕ). record_of 1 (bytes_of 2 n) ++ (x ++ record_of 3 []))
    (gather_same (row_bytes ring point) (row_bytes ring' point') n (λ v l. row_same (ring v) (ring' v) (λ axis. point axis v) (λ axis. point' axis v) (e v l) (h v l)))

module _ (s : List ℕ) (t : Lent) (ps : List ℤ) (a : read_verdict s t ps ≡ (Ok tt)) where
  abbrev n : ℕ
  n = file_count s

  abbrev t' : Lent
  t' = lent (read_valences s t ps) (read_rings s t ps)

  abbrev ps' : List ℤ
  ps' = read_positions s t ps

  -- the stages
  stages : (file_verdict s ≡ (Ok tt)) × ((bad_count n ≡ false) × (short_tables n t ps ≡ false))
  unfolding read_verdict
  stages =
      let b = then_accepted (file_verdict s) (refuse_if (bad_count n) VertexCount (refuse_if (short_tables n t ps) TableTooShort (Ok tt))) a in
      let c = if_accepted (bad_count n) VertexCount (refuse_if (short_tables n t ps) TableTooShort (Ok tt)) b.1 in
      (b.0, (c.0, (if_accepted (short_tables n t ps) TableTooShort (Ok tt) c.1).0))

  laid : Good s
  laid = good s stages.0

  most : (v : ℕ) → v < n → length (file_ring s v) ≤ 32
  most v l = let e = length_ring s v in let m = (row_is s (row_at s v) (laid.rows.row v l)).most in omega arith

  -- the tables hold the file's rows
  valence_read : (v : ℕ) → v < n → valence_at t' v ≡ length (file_ring s v)
  unfolding read_valences after
  valence_read v l = rw a (in_valence n v l (file_ring s) most t)

  ring_read_lem : (v : ℕ) → v < n → ring_of t' v ≡ file_ring s v
  unfolding read_valences read_rings after
  ring_read_lem v l = rw a (in_ring n v l (file_ring s) most t)

  point_read : (v : ℕ) → v < n → (axis : ℕ) → axis < 3 → coordinate_at ps' axis v ≡ file_point s axis v
  unfolding read_positions after
  point_read v l axis h = rw a (in_point n v l (file_point s) ps axis h)

  -- and are as long as they were
  long_valences : length t'.valences ≡ length t.valences
  unfolding read_valences after valence_rows
  long_valences =
      let r = long_tables n t ps stages.1.1 in
      let k = r.0.valences in
      rw a (length_put t.valences 0 (gather (λ v. length (file_ring s v) ∷ []) n) (omega (arith, length_gather (λ v. length (file_ring s v) ∷ []) 1 (λ v. refl) n)))

  long_rings : length t'.rings ≡ length t.rings
  unfolding read_rings after ring_rows
  long_rings =
      let r = long_tables n t ps stages.1.1 in
      let k = r.0.rings in
      rw a (length_put t.rings 0 (gather (λ v. padded (file_ring s v)) n) (omega (arith, length_rows_below (λ v. padded (file_ring s v)) 32 n (λ v l. length_padded (file_ring s v) (most v l)))))

  long_positions : length ps' ≡ length ps
  unfolding read_positions after point_rows
  long_positions =
      let r = long_tables n t ps stages.1.1 in
      let k = r.1 in
      rw a (length_put ps 0 (gather (λ v. file_point s 0 v ∷ file_point s 1 v ∷ file_point s 2 v ∷ []) n)
      (omega (arith, length_gather (λ v. file_point s 0 v ∷ file_point s 1 v ∷ file_point s 2 v ∷ []) 3 (λ v. refl) n)))

  still_long : short_tables n t' ps' ≡ false
  unfolding short_tables short_rings
  still_long = rw (long_valences, long_rings, long_positions) stages.1.1

  module _ (byte : (j : ℕ) → get_or s j 0 < 256) where
    written_same : file_of n (ring_of t') (coordinate_at ps') ≡ s
    written_same = file_same n (ring_of t') (file_ring s) (coordinate_at ps') (file_point s) ring_read_lem point_read ∙ same_bytes s byte laid

    module _ (room : List ℕ) (fits : length s ≤ length room) where
      accepted_again : write_verdict n t' ps' room ≡ (Ok tt)
      unfolding write_verdict
      accepted_again =
          let last = refuse_if (ltb (length room) (length (file_of n (ring_of t') (coordinate_at ps')))) NoRoom (Ok tt) in
          if_clear (bad_count n) VertexCount (refuse_if (short_tables n t' ps') TableTooShort (refuse_at (over_most t'.valences) n RingImproper last)) stages.1.0
          ∙ if_clear (short_tables n t' ps') TableTooShort (refuse_at (over_most t'.valences) n RingImproper last) still_long
          ∙ at_clear (over_most t'.valences) n RingImproper last (λ v l. le-ltb 32 (valence_at t' v) (let e = valence_read v l in let m = most v l in omega arith))
          ∙ if_clear (ltb (length room) (length (file_of n (ring_of t') (coordinate_at ps')))) NoRoom (Ok tt)
          (le-ltb (length room) (length (file_of n (ring_of t') (coordinate_at ps'))) (rw written_same fits))

      answer_again : (write_answer n t' ps' room ≡ Ok (length s)) × (write_room n t' ps' room ≡ put room 0 s)
      unfolding write_answer write_room with_amount after
      answer_again = rw accepted_again (ap (λ (x : List ℕ). Ok (length x)) written_same, ap (put room 0) written_same)

pub write_back : (s : List ℕ) → ((j : ℕ) → get_or s j 0 < 256) → (n : ℕ) (t : Lent) (ps : List ℤ) → read_answer s t ps ≡ Ok n → (room : List ℕ) → length s ≤ length room
    → (write_answer n (lent (read_valences s t ps) (read_rings s t ps)) (read_positions s t ps) room ≡ Ok (length s))
    × (write_room n (lent (read_valences s t ps) (read_rings s t ps)) (read_positions s t ps) room ≡ put room 0 s)
unfolding read_answer
write_back s byte n t ps r room fits =
    let (a, e) = answered (read_verdict s t ps) (file_count s) n r in
    rw (← e) (answer_again s t ps a byte room fits)
