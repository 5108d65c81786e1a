-- The digits of a number: which they are, how many there are, and how long a number and a coordinate are with the byte behind them. Assumes nothing.
use Prim.Native.Nat.{ℕ, zero, suc, ◌+◌, ◌*◌, ◌/◌, ◌%◌, ◌^◌, ◌≤◌, ◌<◌, max}
use mathlib.Core.Path.{◌≡◌, refl, sym, ap, ◌∙◌}
use mathlib.Core.Logic.{⊎_elim}
use mathlib.Core.List.{List, [], ◌∷◌, ◌++◌}
use native.Mathlib.Nat.{div-lt_iff_lt-mul, le-div_iff_mul-le, mod-eq_of_lt, pow-suc}
use native.Mathlib.Numerals.{add-one}
use native.Mathlib.Omega.{arith}
use borrow.Author.Tests.{lt-ltb, le-ltb}
use lib.Dec.{lit<}
use lib.IntN.{ℤ, pos, negsuc}
use lib.ListN.{length, length-append}
use Rattle.mesh.proofs.Lists.{lt_split}
use Rattle.numerals.specs.Numerals.{digit, digits, number, signed}

-- ten to the k
unfoldable pub tens : ℕ → ℕ
tens zero = 1
tens (suc k) = tens k * 10

tens_some : (k : ℕ) → 1 ≤ tens k
unfolding tens
tens_some zero = omega arith
tens_some (suc k) = omega (arith, tens_some k)

tens_power : (k : ℕ) → tens k ≡ 10 ^ k
unfolding tens
tens_power zero = refl
tens_power (suc k) = ap (λ (x : ℕ). x * 10) (tens_power k) ∙ sym (pow-suc 10 k)

-- ---- one digit, or the digits of the tenth and one more

pub digits_small : (j n : ℕ) → n < 10 → digits (suc j) n ≡ digit n ∷ []
unfolding digits
digits_small j n h = rw (lt-ltb n 10 h)

pub digits_big : (j n : ℕ) → 10 ≤ n → digits (suc j) n ≡ digits j (n / 10) ++ (digit (n % 10) ∷ [])
unfolding digits
digits_big j n h = rw (le-ltb n 10 h)

length_big : (j n : ℕ) → 10 ≤ n → length (digits (suc j) n) ≡ length (digits j (n / 10)) + 1
length_big j n h = ap length (digits_big j n h) ∙ length-append (digits j (n / 10)) (digit (n % 10) ∷ [])

-- ---- how many there are

pub digits_most : (j n : ℕ) → length (digits j n) ≤ j
unfolding digits
digits_most zero n = omega arith
digits_most (suc j) n =
    ⊎_elim
    (λ q. rw (digits_small j n q.1) (omega arith))
    (λ q. omega (arith, length_big j n q.1, digits_most j (n / 10)))
    (lt_split n 10)

digits_some : (j n : ℕ) → 1 ≤ length (digits (suc j) n)
digits_some j n =
    ⊎_elim
    (λ q. rw (digits_small j n q.1) (omega arith))
    (λ q. omega (arith, length_big j n q.1))
    (lt_split n 10)

pub digits_length : (j k n : ℕ) → n < tens k → 0 < k → length (digits j n) ≤ k
unfolding tens digits
digits_length zero k n h g = omega arith
digits_length (suc j) zero n h g = absurd (omega arith)
digits_length (suc j) (suc k) n h g =
    ⊎_elim
    (λ q. rw (digits_small j n q.1) (omega arith))
    (λ q. omega (arith, length_big j n q.1, digits_length j k (n / 10) ((div-lt_iff_lt-mul (lit< tt)).1 h) (room k q.1 h)))
    (lt_split n 10)
  where
    room : (k : ℕ) → 10 ≤ n → n < tens k * 10 → 0 < k
    room zero a b = absurd (omega arith)
    room (suc k) a b = omega arith

digits_least : (j k n : ℕ) → k < j → tens k ≤ n → k + 1 ≤ length (digits j n)
unfolding tens
digits_least zero k n h g = absurd (omega arith)
digits_least (suc j) zero n h g = digits_some j n
digits_least (suc j) (suc k) n h g =
    let big : 10 ≤ n = omega (arith, tens_some k) in
    omega (arith, length_big j n big, digits_least j k (n / 10) (omega arith) ((le-div_iff_mul-le (lit< tt)).1 g))

by_logarithm : (n k : ℕ) → k < 20 → 10 ^ k ≤ n → n < 10 * 10 ^ k → k + 1 ≡ length (digits 20 n)
unfolding tens
by_logarithm n k f h g =
    let e = tens_power k in
    let more : n < tens (suc k) = omega arith in
    omega (arith, digits_least 20 k n f (rw e h), digits_length 20 (suc k) n more (omega arith))

-- one more than the logarithm; 0 has as many as 1
pub digits_counted : (n m k : ℕ) → m ≡ max n 1 → k < 20 → 10 ^ k ≤ m → m < 10 * 10 ^ k → k + 1 ≡ length (digits 20 n)
unfolding digits
digits_counted zero m k e f h g = by_logarithm m k f h g ∙ ap (λ (x : ℕ). length (digits 20 x)) (let o : m ≡ 1 = omega arith in o)
digits_counted (suc n) m k e f h g = by_logarithm m k f h g ∙ ap (λ (x : ℕ). length (digits 20 x)) (let o : m ≡ suc n = omega arith in o)

-- ---- which they are

-- the last k digits of n
unfoldable pub last_digits : ℕ → ℕ → List ℕ
last_digits zero n = []
last_digits (suc k) n = last_digits k (n / 10) ++ (digit (n % 10) ∷ [])

one_is : (j n : ℕ) → n < 10 → digits (suc j) n ≡ last_digits (length (digits (suc j) n)) n
unfolding last_digits
one_is j n h = rw (digits_small j n h) (ap (λ (d : ℕ). digit d ∷ []) (sym (mod-eq_of_lt h)))

more_are : (j n : ℕ) → 10 ≤ n → digits j (n / 10) ≡ last_digits (length (digits j (n / 10))) (n / 10)
    → digits (suc j) n ≡ last_digits (length (digits (suc j) n)) n
unfolding last_digits
more_are j n h e =
    digits_big j n h
    ∙ ap (λ (x : List ℕ). x ++ (digit (n % 10) ∷ [])) e
    ∙ sym (ap (λ (k : ℕ). last_digits k n) (length_big j n h ∙ add-one (length (digits j (n / 10)))))

pub digits_are : (j n : ℕ) → digits j n ≡ last_digits (length (digits j n)) n
unfolding digits last_digits
digits_are zero n = refl
digits_are (suc j) n = ⊎_elim (λ q. one_is j n q.1) (λ q. more_are j n q.1 (digits_are j (n / 10))) (lt_split n 10)

-- ---- a number, or a coordinate, and the byte behind it

pub number_length : (n last : ℕ) → length (number n last) ≡ length (digits 20 n) + 1
unfolding number
number_length n last = length-append (digits 20 n) (last ∷ [])

number_most : (n last : ℕ) → length (number n last) ≤ 21
number_most n last = omega (arith, number_length n last, digits_most 20 n)

pub number_fits : (at room n last : ℕ) → at + 21 ≤ room → at + length (number n last) ≤ room
number_fits at room n last h = omega (arith, number_most n last)

pub signed_length : (z : ℤ) (last other : ℕ) → length (signed z last) ≡ length (signed z other)
unfolding signed
signed_length (pos n) last other = number_length n last ∙ sym (number_length n other)
signed_length (negsuc n) last other = ap suc (number_length (suc n) last ∙ sym (number_length (suc n) other))

signed_most : (z : ℤ) (last : ℕ) → length (signed z last) ≤ 22
unfolding signed
signed_most (pos n) last = omega (arith, number_most n last)
signed_most (negsuc n) last = omega (arith, number_most (suc n) last)

pub signed_fits : (at room : ℕ) (z : ℤ) (last : ℕ) → at + 22 ≤ room → at + length (signed z last) ≤ room
signed_fits at room z last h = omega (arith, signed_most z last)
