-- A number that is known to stand at a place, read byte by byte up to the byte behind it; and units, read as a number.
-- Assumes nothing.
use mathlib.Core.Path.{◌≡◌, refl, sym, ap, ◌∙◌}
use mathlib.Core.Bool.{not, Bool, true, ◌&&◌}
use mathlib.Core.List.{List}
use mathlib.Core.Logic.{⊎_elim, ◌≢◌}
use Prim.Native.Nat.{ℕ, ◌+◌, ◌-◌, ◌*◌, ◌≤◌, ◌<◌}
use native.Mathlib.Nat.{add_assoc, zero-add, add-zero, le_antisymm}
use native.Mathlib.Omega.{arith}
use lib.Dec.{eqb, leb}
use lib.IntN.{ℤ, pos, negsuc}
use lib.ListN.{length, get_or}
use borrow.Author.Tests.{eqb-false, not-true, not-false, eq-eqb, ne_eqb, ltb-true}
use Rattle.mesh.proofs.Lists.{lt_split, eq_split}
use Rattle.mesh.proofs.First.{first_le, first_clear}
use Rattle.file_format.specs.Bytes.{coordinate_of}
use Rattle.file_format.proofs.Signed.{low, high}
use Rattle.off_numbers.specs.Text.{byte_at, digit_at, no_digit, run_at, value_of, value_at, after_at, is_number, minus_at, is_unit, unit_at, after_unit}
use Rattle.off_numbers.specs.Scanned.{NumberThere, UnitThere}
use Rattle.off_numbers.proofs.Scanning.{Scan, scan_none, scan_bound, scan_more, digit_range, number_ends, byte_within, and_true}

-- some digits of the number at a place are read, and it goes on at a place
pub record Reading (s : List ℕ) (at value next : ℕ) : Type 0 where
  pub count : ℕ
  pub place : next ≡ at + count
  pub short : count ≤ run_at s at
  pub scan : Scan s at count value

run_most : (s : List ℕ) (at : ℕ) → run_at s at ≤ 11
unfolding run_at
run_most s at = first_le (no_digit s at) 11

ends_within : {s : List ℕ} {at : ℕ} → NumberThere s at → at + run_at s at < length s
ends_within {s} {at} n = byte_within s (at + run_at s at) n.last (number_ends s at n.bound n.last n.good).1 n.positive

pub reading_none : (s : List ℕ) (at : ℕ) → Reading s at 0 at
reading_none s at = record { count = 0; place = omega arith; short = omega arith; scan = scan_none s at }

module _ {s : List ℕ} {at value next : ℕ} (k : Reading s at value next) where
  pub reading_bound : value ≤ 99999999999
  reading_bound = scan_bound k.scan (omega (arith, k.short, run_most s at))

  abbrev byte : ℕ
  byte = get_or s next 0

  byte_is : byte ≡ byte_at s (at + k.count)
  unfolding byte_at
  byte_is = ap (λ i. get_or s i 0) k.place

  abbrev test : Bool
  test = leb 48 byte && leb byte 57

  -- within the row there are digits
  test_true : k.count < run_at s at → test ≡ true
  unfolding run_at digit_at
  test_true h = rw byte_is (not-false (digit_at s (at + k.count)) ((first_clear (no_digit s at) 11).below k.count h))

  -- their bytes
  in_row : k.count < run_at s at → (48 ≤ byte) × (byte ≤ 57)
  in_row h = digit_range s at k.count value byte test byte_is refl (test_true h)

  module _ (n : NumberThere s at) where
    -- a byte that is not below the digits stands in the row
    here : 48 ≤ byte → k.count < run_at s at
    here h =
        ⊎_elim (λ q. q.1)
        (λ q.
        let e : k.count ≡ run_at s at = le_antisymm k.short q.1 in
        let b : byte ≡ n.last = byte_is ∙ ap (λ i. byte_at s (at + i)) e ∙ (number_ends s at n.bound n.last n.good).1 in
        absurd (omega (arith, n.low)))
        (lt_split k.count (run_at s at))

    -- so it is a digit, and a byte follows it
    pub reading_next : 48 ≤ byte → (byte ≤ 57) × (next + 1 < length s)
    reading_next h = ((in_row (here h)).1, omega (arith, k.place, here h, ends_within n))

    pub reading_more : 48 ≤ byte → Reading s at (value * 10 + (byte - 48)) (next + 1)
    reading_more h = record {
      count = k.count + 1;
      place = omega (arith, k.place);
      short = omega (arith, here h);
      scan = scan_more s at k.count value byte test byte_is refl k.scan (test_true (here h));
    }

    -- a byte below the digits ends them
    pub reading_end : byte < 48 → (value ≡ value_at s at) × (next + 1 ≡ after_at s at)
    unfolding value_at after_at
    reading_end h =
        let e : k.count ≡ run_at s at =
        ⊎_elim (λ q. absurd (omega (arith, (in_row q.1).0))) (λ q. le_antisymm k.short q.1) (lt_split k.count (run_at s at))
        in
        (k.scan.worth ∙ ap (value_of s at) e, omega (arith, k.place))

    pub reading_within : next + 1 ≤ length s
    reading_within = omega (arith, k.place, k.short, ends_within n)

-- ---- its first digits

module _ {s : List ℕ} {at : ℕ} (n : NumberThere s at) where
  -- a number has a digit
  pub reading_first : 48 ≤ get_or s at 0
  unfolding is_number after_at
  reading_first =
      let some = eqb-false (run_at s at) 0 (not-true (eqb (run_at s at) 0) (and_true (not (eqb (run_at s at) 0)) _ n.good).0) in
      ⊎_elim (λ q. absurd (omega (arith, some, (reading_end (reading_none s at) n q.1).1))) (λ q. q.1) (lt_split (get_or s at 0) 48)

  pub reading_one : Reading s at (get_or s at 0 - 48) (at + 1)
  reading_one = rw (zero-add (get_or s at 0 - 48)) at (reading_more (reading_none s at) n reading_first)

  module _ (second : 48 ≤ get_or s (at + 1) 0) where
    pub reading_two : Reading s at ((get_or s at 0 - 48) * 10 + (get_or s (at + 1) 0 - 48)) (at + 2)
    reading_two = rw (add_assoc at 1 1) at (reading_more reading_one n second)

    pub reading_three : 48 ≤ get_or s (at + 2) 0
        → Reading s at (((get_or s at 0 - 48) * 10 + (get_or s (at + 1) 0 - 48)) * 10 + (get_or s (at + 2) 0 - 48)) (at + 3)
    reading_three third = rw (add_assoc at 2 1) at (reading_more reading_two n third)

-- ---- units

-- a number stands there, and its value is at most this
pub record Known (s : List ℕ) (at most : ℕ) : Type 0 where
  pub there : NumberThere s at
  pub low : value_at s at ≤ most

module _ {s : List ℕ} {at : ℕ} (u : UnitThere s at) where
  -- behind a minus sign stands a number that is not 0
  pub unit_below : get_or s at 0 ≡ 45 → (0 < value_at s (at + 1)) × Known s (at + 1) 2147483648
  unfolding minus_at is_unit byte_at
  unit_below e =
      let g = and_true (is_number s (at + 1) 2147483649 u.last) _ (rw (eq-eqb (get_or s at 0) 45 e) at u.good) in (
        ltb-true 0 (value_at s (at + 1)) g.1,
        record {
          there = record { bound = 2147483649; last = u.last; positive = u.positive; low = u.low; good = g.0 };
          low = omega (arith, (number_ends s (at + 1) 2147483649 u.last g.0).0);
        },
      )

  pub unit_above : get_or s at 0 ≢ 45 → Known s at 2147483647
  unfolding minus_at is_unit byte_at
  unit_above e =
      let g : is_number s at 2147483648 u.last ≡ true = rw (ne_eqb (get_or s at 0) 45 e) at u.good in
      record {
        there = record { bound = 2147483648; last = u.last; positive = u.positive; low = u.low; good = g };
        low = omega (arith, (number_ends s at 2147483648 u.last g).0);
      }

  pub unit_within : at < length s
  unit_within =
      ⊎_elim (λ q. omega (arith, ends_within (unit_below q.1).1.there)) (λ q. omega (arith, ends_within (unit_above q.1).there))
      (eq_split (get_or s at 0) 45)

  module _ {value next : ℕ} {z : ℤ} where
    pub unit_below_is : get_or s at 0 ≡ 45 → value ≡ value_at s (at + 1) → next ≡ after_at s (at + 1) → z ≡ coordinate_of (4294967296 - value)
        → (z ≡ unit_at s at) × (next ≡ after_unit s at)
    unfolding unit_at after_unit minus_at byte_at
    unit_below_is e v n w =
        let k = unit_below e in
        let h : 2147483648 ≤ 4294967296 - value = omega (arith, k.0, k.1.low) in
        let p : 4294967295 - (4294967296 - value) ≡ value_at s (at + 1) - 1 = omega (arith, k.0, k.1.low) in
        rw (eq-eqb (get_or s at 0) 45 e) (w ∙ sym (high (4294967296 - value) h) ∙ ap negsuc p, n)

    pub unit_above_is : get_or s at 0 ≢ 45 → value ≡ value_at s at → next ≡ after_at s at → z ≡ coordinate_of value
        → (z ≡ unit_at s at) × (next ≡ after_unit s at)
    unfolding unit_at after_unit minus_at byte_at
    unit_above_is e v n w =
        let k = unit_above e in
        rw (ne_eqb (get_or s at 0) 45 e, add-zero at) (w ∙ sym (low value (omega (arith, k.low))) ∙ ap pos v, n)
