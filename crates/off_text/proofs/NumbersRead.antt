-- A number that was written is read back: its digits, its value, the place behind it. Assumes nothing.
use mathlib.Core.Path.{◌≡◌, refl, sym, ap, ◌∙◌, subst}
use mathlib.Core.Bool.{Bool, true, false, not, ◌&&◌}
use mathlib.Core.List.{List, [], ◌∷◌, ◌++◌}
use mathlib.Core.Logic.{◌⊎◌, ⊎_elim, ◌≢◌}
use Prim.Native.Nat.{ℕ, zero, suc, ◌+◌, ◌-◌, ◌*◌, ◌/◌, ◌%◌, ◌≤◌, ◌<◌}
use native.Mathlib.Nat.{add-zero, div-add-mod', div-lt_iff_lt-mul, mod-lt}
use native.Mathlib.Numerals.{add-one}
use native.Mathlib.Omega.{arith}
use lib.Dec.{leb, eqb, lit<}
use lib.IntN.{ℤ, pos, negsuc}
use lib.ListN.{length, length-append}
use borrow.Author.Tests.{eq-eqb, ne_eqb, eqb-false, lt-ltb, le-leb, lt-leb}
use Rattle.mesh.proofs.Lists.{lt_split}
use Rattle.mesh.proofs.First.{first_is, true_not_false}
use Rattle.numerals.specs.Numerals.{digit, digits, number, signed}
use Rattle.numerals.proofs.Digits.{tens, digits_small, digits_big, digits_length}
use Rattle.off_numbers.specs.Text.{byte_at, digit_at, run_at, value_of, value_at, after_at, padded, is_number, minus_at, is_unit, unit_at, after_unit}
use Rattle.off_text.proofs.Standing.{Stands, stands_front, stands_back}

-- ---- the digits of n, at most j of them

digit_is : (s : List ℕ) (at b : ℕ) → byte_at s at ≡ b → 48 ≤ b → b ≤ 57 → digit_at s at ≡ true
unfolding digit_at
digit_is s at b e h g = rw (e, le-leb 48 b h, le-leb b 57 g)

-- what is read where the digits of n stand
record Digits (s : List ℕ) (at n k : ℕ) : Type 0 where
  pub some : 0 < k
  pub all : (i : ℕ) → i < k → digit_at s (at + i) ≡ true
  pub worth : value_of s at k ≡ n
  pub one : k ≢ 1 → 10 ≤ n
  pub front : 0 < n → byte_at s at ≢ 48

module _ (s : List ℕ) (at : ℕ) where
  digits_read_small : (n : ℕ) → n < 10 → Stands s at (digit n ∷ []) → Digits s at n 1
  unfolding value_of
  digits_read_small n h k =
      let e : byte_at s (at + 0) ≡ 48 + n = k.byte 0 (omega arith) in
      let f : byte_at s at ≡ 48 + n = ap (byte_at s) (sym (add-zero at)) ∙ e in
      record {
        some = omega arith;
        all = λ i l. subst (λ j. digit_at s (at + j) ≡ true) (zero_of i l) (digit_is s (at + 0) (48 + n) e (omega arith) (omega arith));
        worth = rw e (omega arith);
        one = λ d. absurd (d refl);
        front = λ p q. absurd (omega arith);
      }
    where
      zero_of : (i : ℕ) → i < 1 → 0 ≡ i
      zero_of i h = omega arith

  digits_read_more : (n k d : ℕ) → 10 ≤ n → d < 10 → n / 10 * 10 + d ≡ n → byte_at s (at + k) ≡ 48 + d → Digits s at (n / 10) k → Digits s at n (k + 1)
  unfolding value_of
  digits_read_more n k d h g e b r = record {
    some = omega arith;
    all = λ i l.
        ⊎_elim
        (λ q. r.all i q.1)
        (λ q. subst (λ j. digit_at s (at + j) ≡ true) (last i l q.1) (digit_is s (at + k) (48 + d) b (omega arith) (omega arith)))
        (lt_split i k);
    worth = rw (add-one k, r.worth, b) (omega arith);
    one = λ q. h;
    front = λ q. r.front (omega arith);
  }
    where
      last : (i : ℕ) → i < k + 1 → k ≤ i → k ≡ i
      last i h g = omega arith

  small : (j n : ℕ) → n < 10 → Stands s at (digits (suc j) n) → Digits s at n (length (digits (suc j) n))
  small j n h k = rw (digits_small j n h) (digits_read_small n h (rw (digits_small j n h) at k))

  big : (j n : ℕ) → 10 ≤ n → Stands s at (digits (suc (suc j)) n)
      → (Stands s at (digits (suc j) (n / 10)) → Digits s at (n / 10) (length (digits (suc j) (n / 10))))
      → Digits s at n (length (digits (suc (suc j)) n))
  big j n h k f =
      let l : List ℕ = digits (suc j) (n / 10) in
      let k' : Stands s at (l ++ (digit (n % 10) ∷ [])) = rw (digits_big (suc j) n h) at k in
      let b : byte_at s (at + length l) ≡ 48 + n % 10 =
      ap (byte_at s) (sym (add-zero (at + length l))) ∙ (stands_back s at l (digit (n % 10) ∷ []) k').byte 0 (omega arith) in
      rw (digits_big (suc j) n h, length-append l (digit (n % 10) ∷ []))
      (digits_read_more n (length l) (n % 10) h (mod-lt n (lit< tt)) (div-add-mod' n 10) b (f (stands_front s at l (digit (n % 10) ∷ []) k')))

  -- with at most j + 1 of them
  digits_read : (j n : ℕ) → n < tens (suc j) → Stands s at (digits (suc j) n) → Digits s at n (length (digits (suc j) n))
  unfolding tens
  digits_read zero n h k = small 0 n (omega arith) k
  digits_read (suc j) n h k =
      ⊎_elim
      (λ q. small (suc j) n q.1 k)
      (λ q. big j n q.1 k (λ k'. digits_read j (n / 10) (tenth n (tens j * 10) h) k'))
      (lt_split n 10)
    where
      tenth : (n m : ℕ) → n < m * 10 → n / 10 < m
      tenth n m h = (div-lt_iff_lt-mul (lit< tt)).1 h

-- ---- a number and the byte behind it

-- what is read where a number stands
pub record NumberRead (s : List ℕ) (at n bound last next : ℕ) : Type 0 where
  pub is : is_number s at bound last ≡ true
  pub worth : value_at s at ≡ n
  pub behind : after_at s at ≡ next

module _ (s : List ℕ) (at n last : ℕ) (n< : n < 4294967296) (other : (last < 48) ⊎ (57 < last)) (k : Stands s at (number n last)) where
  -- how many digits
  abbrev size : ℕ
  size = length (digits 20 n)

  front : Stands s at (digits 20 n)
  unfolding number
  front = stands_front s at (digits 20 n) (last ∷ []) k

  behind_byte : byte_at s (at + size) ≡ last
  unfolding number
  behind_byte = ap (byte_at s) (sym (add-zero (at + size))) ∙ (stands_back s at (digits 20 n) (last ∷ []) k).byte 0 (omega arith)

  read : Digits s at n size
  unfolding tens
  read = digits_read s at 19 n (omega arith) front

  short : size ≤ 10
  unfolding tens
  short = digits_length 20 10 n (omega arith) (omega arith)

  stops : digit_at s (at + size) ≡ false
  unfolding digit_at
  stops = ⊎_elim (λ h. rw (behind_byte, lt-leb 48 last h)) (λ h. rw (behind_byte, lt-leb last 57 h) (and_false (leb 48 last))) other
    where
      and_false : (t : Bool) → t && false ≡ false
      and_false true = refl
      and_false false = refl

  run_is : run_at s at ≡ size
  unfolding run_at
  run_is = sym (first_is (record { below = λ i h. ap not (read.all i h) }) (omega (arith, short)) (ap not stops))

  not_padded : padded s at size ≡ false
  unfolding padded
  not_padded = go (eqb size 1) refl
    where
      go : (t : Bool) → eqb size 1 ≡ t → not (eqb size 1) && eqb (byte_at s at) 48 ≡ false
      go true e = rw e
      go false e = rw (e, ne_eqb (byte_at s at) 48 (read.front (omega (arith, read.one (eqb-false _ _ e)))))

  pub number_read : (bound : ℕ) → n < bound → NumberRead s at n bound last (at + length (number n last))
  unfolding is_number value_at after_at number
  number_read bound h = record {
    is = rw (run_is, ne_eqb size 0 (omega (arith, read.some)), not_padded, read.worth, lt-ltb n bound h, behind_byte) (eq-eqb last last refl);
    worth = rw run_is read.worth;
    behind = rw (run_is, length-append (digits 20 n) (last ∷ [])) (omega arith);
  }

  -- it begins with a digit
  no_minus : minus_at s at ≡ false
  unfolding minus_at digit_at
  no_minus =
      ne_eqb (byte_at s at) 45 (λ e.
      absurd (digit_no (byte_at s at) e (ap (λ j. leb 48 (byte_at s j) && leb (byte_at s j) 57) (sym (add-zero at)) ∙ read.all 0 read.some)))
    where
      digit_no : (b : ℕ) → b ≡ 45 → leb 48 b && leb b 57 ≡ true → ⊥
      digit_no b e q = true_not_false q (rw (lt-leb 48 b (omega arith)))

-- ---- units

-- what is read where units stand
pub record UnitRead (s : List ℕ) (at : ℕ) (z : ℤ) (last next : ℕ) : Type 0 where
  pub is : is_unit s at last ≡ true
  pub worth : unit_at s at ≡ z
  pub behind : after_unit s at ≡ next

-- a number of 32 bits
abbrev pub Held : ℤ → Type 0
Held (pos n) = n < 2147483648
Held (negsuc n) = n < 2147483648

module _ (s : List ℕ) (at last : ℕ) (other : (last < 48) ⊎ (57 < last)) where
  pub unit_read : (z : ℤ) → Held z → Stands s at (signed z last) → UnitRead s at z last (at + length (signed z last))
  unfolding signed is_unit unit_at after_unit minus_at
  unit_read (pos n) h k =
      let m : eqb (byte_at s at) 45 ≡ false = unfold minus_at in no_minus s at n last (omega arith) other k in
      let r = number_read s at n last (omega arith) other k 2147483648 h in
      record {
        is = rw m r.is;
        worth = rw m (ap pos r.worth);
        behind = rw m (ap (after_at s) (add-zero at) ∙ r.behind);
      }
  unit_read (negsuc n) h k =
      let m : eqb (byte_at s at) 45 ≡ true =
      eq-eqb (byte_at s at) 45 (ap (byte_at s) (sym (add-zero at)) ∙ (stands_front s at (45 ∷ []) (number (suc n) last) k).byte 0 (omega arith)) in
      let r = number_read s (at + 1) (suc n) last (omega arith) other (stands_back s at (45 ∷ []) (number (suc n) last) k) 2147483649 (omega arith) in
      record {
        is = rw (m, r.is, r.worth) (lt-ltb 0 (suc n) (omega arith));
        worth = rw (m, r.worth) (ap negsuc (less n));
        behind = rw m (r.behind ∙ omega arith);
      }
    where
      less : (n : ℕ) → suc n - 1 ≡ n
      less n = omega arith
