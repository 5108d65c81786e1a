-- How long a row and a file are, and what writing a row, all rows, and each return of `write` shows. Assumes nothing.
use Prim.Native.Nat.{ℕ, zero, suc, ◌+◌, ◌*◌, ◌≤◌, ◌<◌}
use mathlib.Core.Path.{◌≡◌, refl, sym, ap, ◌∙◌}
use mathlib.Core.Bool.{Bool, true, false}
use mathlib.Core.List.{List, [], ◌++◌}
use native.Mathlib.Numerals.{add-one}
use native.Mathlib.Omega.{arith}
use borrow.Author.Tests.{lt-ltb, le-ltb, ltb-false}
use lib.Dec.{ltb}
use lib.IntN.{ℤ, pos}
use lib.ListN.{length, get_or, take, length-append}
use Rattle.std.specs.List.{sum_by}
use Rattle.std.proofs.lemmas.List.Sums.{sum_by_more}
use Rattle.mesh.specs.Search.{sum, first}
use Rattle.mesh.proofs.First.{first_clear}
use Rattle.mesh.proofs.Lists.{climbs}
use Rattle.rings.specs.Table.{Lent, valence_at, gather, ring_of, coordinate_at}
use Rattle.rings.specs.Verdict.{refuse_if, refuse_at, after, with_amount}
use Rattle.rings.specs.Check.{bad_count, short_tables}
use Rattle.rings.specs.Accepts.{HasRow}
use Rattle.rings.specs.declared.Refusal.{Refusal}
use Rattle.rings.specs.declared.Refusal.TheVariants.{TableTooShort, VertexCount, RingImproper, NoRoom}
use Rattle.rings.proofs.Rows.{row_length, room_row}
use Rattle.rings.proofs.Checks.{long_tables}
use Rattle.rings.proofs.Verdicts.{if_hit, if_pass, at_hit, at_pass}
use Rattle.file_format.specs.Bytes.{bytes_of, bits_of, record_of}
use Rattle.file_format.specs.Blocks.{Put}
use Rattle.file_rings.specs.Neighbours.{neighbour_bytes}
use Rattle.file_rings.proofs.RingWritten.{length_neighbour_bytes}
use Rattle.file_writing.specs.Write.{payload_of, row_bytes, file_of, rows_length, over_most, write_verdict, write_answer, write_room}
use Rattle.file_writing.specs.Storing.{point_bytes, Stored}
use Rattle.file_format.proofs.Blocks.{then, put_is}
use Rattle.rings.specs.Refusal.{Amount, Verdict}
use Rattle.std.specs.Prelude.{Ok, Err}

-- ---- lengths

pub length_payload : (ring : List ℕ) (point : ℕ → ℤ) → length (payload_of ring point) ≡ 14 + 2 * length ring
unfolding payload_of
length_payload ring point = omega (arith, length_neighbour_bytes ring (length ring))

pub length_row : (ring : ℕ → List ℕ) (point : ℕ → ℕ → ℤ) (v : ℕ) → length (row_bytes ring point v) ≡ 20 + 2 * length (ring v)
unfolding record_of
length_row ring point v = omega (arith, length_payload (ring v) (λ axis. point axis v))

pub length_rows : (ring : ℕ → List ℕ) (point : ℕ → ℕ → ℤ) (n : ℕ) → length (gather (row_bytes ring point) n) ≡ sum (λ v. 20 + 2 * length (ring v)) n
length_rows ring point zero = refl
length_rows ring point (suc n) = length-append (gather (row_bytes ring point) n) (row_bytes ring point n) ∙ omega (arith, length_rows ring point n, length_row ring point n)

pub length_file : (n : ℕ) (ring : ℕ → List ℕ) (point : ℕ → ℕ → ℤ) → length (file_of n ring point) ≡ 14 + sum (λ v. 20 + 2 * length (ring v)) n
unfolding file_of record_of
length_file n ring point =
    let rows = gather (row_bytes ring point) n in
    omega (arith, length-append rows (record_of 3 []), length_rows ring point n)

pub length_more : (vs : List ℕ) (v : ℕ) → rows_length vs (v + 1) ≡ rows_length vs v + (20 + 2 * get_or vs v 0)
unfolding rows_length
length_more vs v = rw add-one

pub length_none : (vs : List ℕ) → rows_length vs 0 ≡ 0
unfolding rows_length
length_none vs = refl

length_up : (vs : List ℕ) (i : ℕ) → rows_length vs i ≤ rows_length vs (suc i)
unfolding rows_length
length_up vs i = omega arith

-- the bytes up to row v, and of row v, are among those of all rows
pub length_within : (vs : List ℕ) (v n : ℕ) → v < n → rows_length vs v + (20 + 2 * get_or vs v 0) ≤ rows_length vs n
length_within vs v n h = let a = length_more vs v in let b = climbs (rows_length vs) (length_up vs) (v + 1) n (omega arith) in omega arith

-- a row takes at most what one of 65,535 neighbours would
pub length_most : (vs : List ℕ) → ((i : ℕ) → get_or vs i 0 < 65536) → (n : ℕ) → rows_length vs n ≤ 131090 * n
unfolding rows_length
length_most vs h zero = omega arith
length_most vs h (suc n) = omega (arith, length_most vs h n, h n)

-- the same bytes, summed along the list
pub rows_sum : (vs : List ℕ) (n : ℕ) → n ≤ length vs → sum_by (λ k. 20 + 2 * k) (take n vs) ≡ rows_length vs n
unfolding rows_length
rows_sum vs zero h = refl
rows_sum vs (suc n) h =
    let f : ℕ → ℕ = λ k. 20 + 2 * k in
    ap (λ (k : ℕ). sum_by f (take k vs)) (sym (add-one n)) ∙ sum_by_more f vs n 0 (omega arith) ∙ ap (λ (k : ℕ). k + f (get_or vs n 0)) (rows_sum vs n (omega arith))

-- ---- a row

pub coordinate_is : (ps : List ℤ) (v axis k : ℕ) → k ≡ v * 3 + axis → get_or ps k (pos 0) ≡ coordinate_at ps axis v
unfolding coordinate_at
coordinate_is ps v axis k e = ap (λ (j : ℕ). get_or ps j (pos 0)) e

pub put_coordinate : {l m : List ℕ} {at : ℕ} (ps : List ℤ) (v axis k : ℕ) → k ≡ v * 3 + axis → Put l at (bytes_of 4 (bits_of (get_or ps k (pos 0)))) m → Put l at (bytes_of 4 (bits_of (coordinate_at ps axis v))) m
put_coordinate ps v axis k e p = put_is (ap (λ (z : ℤ). bytes_of 4 (bits_of z)) (coordinate_is ps v axis k e)) p

module _ (t : Lent) (ps : List ℤ) (v : ℕ) {r : List ℕ} (e : r ≡ ring_of t v) where
  -- the four parts of a row, one after the other
  pub row_put : {l m₁ m₂ m₃ m₄ : List ℕ} {at : ℕ} → Put l at (bytes_of 4 (14 + 2 * length r) ++ bytes_of 2 2) m₁ → Put m₁ (at + 6) (point_bytes ps v) m₂ → Put m₂ (at + 18) (bytes_of 2 (length r)) m₃
      → Put m₃ (at + 20) (gather (neighbour_bytes r) (length r)) m₄ → Put l at (row_bytes (ring_of t) (coordinate_at ps) v) m₄
  unfolding record_of payload_of
  row_put {l} {m₁} {m₂} {m₃} {m₄} {at} p q s y =
      let d : 14 + 2 * length r ≡ length (payload_of r (λ axis. coordinate_at ps axis v)) = sym (length_payload r (λ axis. coordinate_at ps axis v)) in
      let w : Put l at (((bytes_of 4 (14 + 2 * length r) ++ bytes_of 2 2) ++ point_bytes ps v) ++ (bytes_of 2 (length r)) ++ gather (neighbour_bytes r) (length r)) m₄ =
      then (then (then p q refl) s refl) y refl in
      let x : Put l at (record_of 2 (payload_of r (λ axis. coordinate_at ps axis v))) m₄ =
      put_is (ap (λ (k : ℕ). bytes_of 4 k ++ (bytes_of 2 2 ++ payload_of r (λ axis. coordinate_at ps axis v))) d) w in
      put_is (ap (λ (x : List ℕ). record_of 2 (payload_of x (λ axis. coordinate_at ps axis v))) e) x

-- ---- all rows

module _ {n : ℕ} {t : Lent} {ps : List ℤ} (h : Stored n t ps) where
  pub stored_row : (v : ℕ) → v < n → HasRow t v
  stored_row v l = room_row h.room l (h.most v l)

  sum_rows : (m : ℕ) → m ≤ n → sum (λ v. 20 + 2 * length (ring_of t v)) m ≡ rows_length t.valences m
  unfolding rows_length
  sum_rows zero l = refl
  sum_rows (suc m) l = omega (arith, sum_rows m (omega arith), row_length t m (stored_row m (omega arith)))

  pub rows_long : (m : ℕ) → m ≤ n → length (gather (row_bytes (ring_of t) (coordinate_at ps)) m) ≡ rows_length t.valences m
  rows_long m l = length_rows (ring_of t) (coordinate_at ps) m ∙ sum_rows m l

  pub file_long : length (file_of n (ring_of t) (coordinate_at ps)) ≡ 14 + rows_length t.valences n
  file_long = length_file n (ring_of t) (coordinate_at ps) ∙ ap (λ (k : ℕ). 14 + k) (sum_rows n (omega arith))

  -- the four parts of a file, one after the other
  pub file_put : {l m₁ m₂ m₃ m₄ : List ℕ} {at : ℕ} → Put l 0 (bytes_of 4 2 ++ bytes_of 2 1) m₁ → Put m₁ 6 (bytes_of 2 n) m₂ → Put m₂ 8 (gather (row_bytes (ring_of t) (coordinate_at ps)) n) m₃
      → Put m₃ at (bytes_of 4 0 ++ bytes_of 2 3) m₄ → at ≡ 8 + rows_length t.valences n → Put l 0 (file_of n (ring_of t) (coordinate_at ps)) m₄
  unfolding file_of record_of
  file_put p q s y e = then (then (then p q refl) s refl) y (let r = rows_long n (omega arith) in omega arith)

-- ---- what each return of `write` shows

abbrev pub Shown : ℕ → Lent → List ℤ → List ℕ → Amount → List ℕ → Type 0
Shown n t ps room a room' = (a ≡ write_answer n t ps room) × (room' ≡ write_room n t ps room)

module _ (n : ℕ) (t : Lent) (ps : List ℤ) (room : List ℕ) where
  abbrev file : List ℕ
  file = file_of n (ring_of t) (coordinate_at ps)

  refused : (r : Refusal) → Err r ≡ write_verdict n t ps room → Shown n t ps room (Err r) room
  unfolding write_answer write_room with_amount after
  refused r e = rw (← e) (refl, refl)

  -- what is left of the verdict before each stage
  abbrev from10 : Verdict
  from10 = refuse_if (ltb (length room) (length file)) NoRoom (Ok tt)

  abbrev from4 : Verdict
  from4 = refuse_at (over_most t.valences) n RingImproper from10

  abbrev from1 : Verdict
  from1 = refuse_if (short_tables n t ps) TableTooShort from4

  module _ {a : Bool} (p : a ≡ bad_count n) where
    pub write_bad : a ≡ true → Shown n t ps room (Err VertexCount) room
    unfolding write_verdict
    write_bad y = refused VertexCount (if_hit (bad_count n) VertexCount from1 a p y)

    module _ (y : a ≡ false) {b : Bool} (q : b ≡ short_tables n t ps) where
      past2 : from1 ≡ write_verdict n t ps room
      unfolding write_verdict
      past2 = sym (if_pass (bad_count n) VertexCount from1 a p y)

      pub write_short : b ≡ true → Shown n t ps room (Err TableTooShort) room
      write_short u = refused TableTooShort (if_hit (short_tables n t ps) TableTooShort from4 b q u ∙ past2)

      module _ (u : b ≡ false) (v : ℕ) (f : v ≡ first (over_most t.valences) n) where
        past1 : from4 ≡ write_verdict n t ps room
        past1 = sym (if_pass (short_tables n t ps) TableTooShort from4 b q u) ∙ past2

        pub write_over : v < n → Shown n t ps room (Err (RingImproper v)) room
        write_over l = refused (RingImproper v) (at_hit (over_most t.valences) n RingImproper from10 v f l ∙ past1)

        module _ (l : n ≤ v) where
          pub stored : Stored n t ps
          stored =
              let r = long_tables n t ps (sym q ∙ u) in
              record { room = r.0; points = r.1; most = λ k h. ltb-false 32 (valence_at t k) ((first_clear (over_most t.valences) n).below k (omega arith)) }

          past4 : from10 ≡ write_verdict n t ps room
          past4 = sym (at_pass (over_most t.valences) n RingImproper from10 v f l) ∙ past1

          module _ (size : ℕ) (s : size ≡ rows_length t.valences n) where
            pub write_full : length room < 14 + size → Shown n t ps room (Err NoRoom) room
            write_full h =
                let g = file_long stored in
                refused NoRoom (if_hit (ltb (length room) (length file)) NoRoom (Ok tt) (ltb (length room) (length file)) refl (lt-ltb (length room) (length file) (omega arith)) ∙ past4)

            pub write_done : 14 + size ≤ length room → {room' : List ℕ} → Put room 0 file room' → Shown n t ps room (Ok (14 + size)) room'
            unfolding write_answer write_room with_amount after
            write_done h w =
                let g : length file ≡ 14 + size = file_long stored ∙ ap (λ (k : ℕ). 14 + k) (sym s) in
                let e : (Ok tt) ≡ write_verdict n t ps room =
                sym (if_pass (ltb (length room) (length file)) NoRoom (Ok tt) (ltb (length room) (length file)) refl (le-ltb (length room) (length file) (omega arith))) ∙ past4 in
                rw (← e) (ap Ok (sym g), w.is)
