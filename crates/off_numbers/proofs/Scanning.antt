-- From a scan of digits to the definitions. Assumes nothing.
use mathlib.Core.Path.{◌≡◌, refl, sym, ap, ◌∙◌, subst}
use mathlib.Core.Bool.{Bool, true, false, not, ◌&&◌}
use mathlib.Core.List.{List}
use mathlib.Core.Logic.{⊎_elim}
use Prim.Native.Nat.{ℕ, zero, suc, ◌+◌, ◌-◌, ◌*◌, ◌≤◌, ◌<◌}
use native.Mathlib.Numerals.{add-one}
use native.Mathlib.Omega.{arith}
use lib.Dec.{leb, ltb, eqb}
use lib.ListN.{length, get_or-eq_default}
use borrow.Author.Tests.{eqb-true, ltb-true, leb-true}
use Rattle.mesh.specs.Search.{first}
use Rattle.mesh.proofs.Lists.{climbs, lt_split}
use Rattle.mesh.proofs.First.{Clear, clear_more, clear_none, first_is, first_end, true_not_false}
use Rattle.off_numbers.specs.Text.{byte_at, digit_at, no_digit, run_at, value_of, value_at, after_at, padded, is_number}
use Rattle.off_numbers.specs.Scanned.{Digits}

pub and_true : (a b : Bool) → a && b ≡ true → (a ≡ true) × (b ≡ true)
and_true true b e = (refl, e)
and_true false b e = absurd (true_not_false e refl)

-- ---- bytes

pub byte_past : (s : List ℕ) (at i : ℕ) → at ≤ length s → length s - at ≤ i → 0 ≡ byte_at s (at + i)
unfolding byte_at
byte_past s at i h g = sym (get_or-eq_default s 0 (omega arith))

-- a byte that is not 0 stands in the text
pub byte_within : (s : List ℕ) (at b : ℕ) → byte_at s at ≡ b → 0 < b → at < length s
unfolding byte_at
byte_within s at b e h =
    ⊎_elim (λ q. q.1) (λ q. absurd (omega (arith, get_or-eq_default s 0 q.1))) (lt_split at (length s))

-- ---- the scan

-- the greatest number of k digits
unfoldable pub nines : ℕ → ℕ
nines zero = 0
nines (suc k) = nines k * 10 + 9

nines_most : (k : ℕ) → k ≤ 11 → nines k ≤ 99999999999
unfolding nines
nines_most k h = climbs nines (λ i. omega arith) k 11 h

-- so far there are only digits, and this is their value
pub record Scan (s : List ℕ) (at count value : ℕ) : Type 0 where
  pub clear : Clear (no_digit s at) count
  pub worth : value ≡ value_of s at count
  pub most : value ≤ nines count

pub scan_none : (s : List ℕ) (at : ℕ) → Scan s at 0 0
unfolding value_of nines
scan_none s at = record { clear = clear_none; worth = refl; most = omega arith }

pub scan_bound : {s : List ℕ} {at count value : ℕ} → Scan s at count value → count ≤ 11 → value ≤ 99999999999
scan_bound {s} {at} {count} {value} k h = omega (arith, k.most, nines_most count h)

module _ (s : List ℕ) (at count value byte : ℕ) (r : Bool) (is : byte ≡ byte_at s (at + count)) (test : r ≡ (leb 48 byte && leb byte 57)) where
  digit_of : r ≡ digit_at s (at + count)
  unfolding digit_at
  digit_of = subst (λ b. r ≡ (leb 48 b && leb b 57)) is test

  pub digit_range : r ≡ true → (48 ≤ byte) × (byte ≤ 57)
  digit_range e =
      let d = and_true (leb 48 byte) (leb byte 57) (sym test ∙ e) in
      (leb-true 48 byte d.0, leb-true byte 57 d.1)

  pub scan_stop : Scan s at count value → count < 11 → r ≡ false → Digits s at count value
  unfolding run_at value_at
  scan_stop k h e =
      let i : count ≡ first (no_digit s at) 11 = first_is k.clear h (ap not (sym digit_of ∙ e)) in
      record { run = i; worth = k.worth ∙ ap (value_of s at) i }

  pub scan_more : Scan s at count value → r ≡ true → Scan s at (count + 1) (value * 10 + (byte - 48))
  unfolding value_of nines
  scan_more k e =
      let d = digit_range e in
      record {
        clear = clear_more k.clear (ap not (sym digit_of ∙ e));
        worth = rw (add-one count, k.worth, is);
        most = rw (add-one count) (omega (arith, k.most));
      }

pub scan_end : {s : List ℕ} {at count value : ℕ} → Scan s at count value → count ≤ 11 → 11 ≤ count → Digits s at 11 value
unfolding run_at value_at
scan_end {s} {at} {count} {value} k a b =
    let i : count ≡ first (no_digit s at) 11 = first_end k.clear a b in
    record { run = omega (arith, i); worth = k.worth ∙ ap (value_of s at) i }

-- ---- a number that is known to stand there

-- its value is below the bound, and this byte stands behind it
pub number_ends : (s : List ℕ) (at bound last : ℕ) → is_number s at bound last ≡ true → (value_at s at < bound) × (byte_at s (at + run_at s at) ≡ last)
unfolding is_number
number_ends s at bound last e =
    let a = and_true (not (eqb (run_at s at) 0)) _ e in
    let b = and_true (not (padded s at (run_at s at))) _ a.1 in
    let c = and_true (ltb (value_at s at) bound) _ b.1 in
    (ltb-true _ _ c.0, eqb-true _ _ c.1)

-- it lies within the text
pub number_within : (s : List ℕ) (at bound last : ℕ) → is_number s at bound last ≡ true → 0 < last → (after_at s at ≤ length s) × (value_at s at < bound)
unfolding after_at
number_within s at bound last e h =
    let k = number_ends s at bound last e in
    let d = byte_within s (at + run_at s at) last k.1 h in
    (omega arith, k.0)
