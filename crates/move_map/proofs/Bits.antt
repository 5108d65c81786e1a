-- Laws of a word's bits. Assumes nothing.
use mathlib.Core.Bool.{Bool, true, false, ◌||◌}
use mathlib.Core.Path.{◌≡◌, refl, sym, ap, ap₂, ◌∙◌}
use Prim.Native.Nat.{ℕ, zero, suc, ◌+◌, ◌*◌, ◌/◌, ◌%◌, ◌^◌, ◌<◌, max, zero-le, suc-le-suc}
use native.Mathlib.Nat.{pow-suc, mul-one, mul_assoc, not-suc-le-zero, le_of_suc-le-suc, div-one, add_comm, add_assoc}
use native.Mathlib.Omega.{arith}
use native.Mathlib.Numerals.{one-add}
use lib.Dec.{eqb}
use lib.Arith.{lt-one, digits_div, digits_mod}
use lib.Pow.{shr-shr}
use lib.Bits.{bit_or, or_step}
use lib.Count.{ones, ones_step}
use Rattle.mesh.specs.Search.{bit, sum}
use Rattle.mesh.proofs.Lists.{sum_same, sum_more}
use Rattle.move_map.specs.Map.{bit_of, members}

pub bit_low : (w : ℕ) → bit_of w 0 ≡ eqb (w % 2) 1
unfolding bit_of
bit_low w = rw div-one

pub bit_suc : (w k : ℕ) → bit_of w (suc k) ≡ bit_of (w / 2) k
unfolding bit_of
bit_suc w k = let e : 1 + k ≡ suc k = one-add k in rw (← e, ← shr-shr w 1 k)

two_low : (w : ℕ) → w % 2 < 2
two_low w = omega arith

odd_bit : (w : ℕ) → bit (eqb (w % 2) 1) ≡ w % 2
odd_bit w = go (w % 2) (two_low w)
  where
    go : (r : ℕ) → r < 2 → bit (eqb r 1) ≡ r
    go zero p = refl
    go (suc zero) p = refl
    go (suc (suc r)) p = absurd (omega arith)

half_lt : (k w : ℕ) → w < 2 ^ suc k → w / 2 < 2 ^ k
half_lt k w p = let e = pow-suc 2 k in omega arith

-- ---- a word from its bits

-- the number whose n low bits are s 0, s 1, .., from the lowest on
unfoldable digits : ℕ → (ℕ → Bool) → ℕ
digits zero s = 0
digits (suc n) s = digits n (λ k. s (suc k)) * 2 + bit (s zero)

digits_more : (n : ℕ) (s : ℕ → Bool) → digits (suc n) s ≡ digits n s + bit (s n) * 2 ^ n
unfolding digits
digits_more zero s = let e : bit (s zero) * 1 ≡ bit (s zero) = mul-one (bit (s zero)) in omega arith
digits_more (suc n) s =
    let h : digits (suc n) (λ k. s (suc k)) ≡ digits n (λ k. s (suc k)) + bit (s (suc n)) * 2 ^ n = digits_more n (λ k. s (suc k)) in
    let e : bit (s (suc n)) * 2 ^ suc n ≡ bit (s (suc n)) * 2 ^ n * 2 = ap (λ (x : ℕ). bit (s (suc n)) * x) (pow-suc 2 n) ∙ sym (mul_assoc (bit (s (suc n))) (2 ^ n) 2) in
    omega arith

digits_sum : (n : ℕ) (s : ℕ → Bool) → sum (λ b. bit (s b) * 2 ^ b) n ≡ digits n s
unfolding digits
digits_sum zero s = refl
digits_sum (suc n) s = ap (λ (x : ℕ). x + bit (s n) * 2 ^ n) (digits_sum n s) ∙ sym (digits_more n s)

digits_lt : (n : ℕ) (s : ℕ → Bool) → digits n s < 2 ^ n
unfolding digits
digits_lt zero s = omega arith
digits_lt (suc n) s = let e = pow-suc 2 n in let h = digits_lt n (λ k. s (suc k)) in go (s zero) _ _ _ e h
  where
    go : (b : Bool) (x p q : ℕ) → q ≡ p * 2 → x < p → x * 2 + bit b < q
    go true x p q e h = omega arith
    go false x p q e h = omega arith

num_lt : (b : Bool) → bit b < 2
num_lt true = omega arith
num_lt false = omega arith

odd_of : (b : Bool) → eqb (bit b) 1 ≡ b
odd_of true = refl
odd_of false = refl

bit_digits : (n : ℕ) (s : ℕ → Bool) (k : ℕ) → k < n → bit_of (digits n s) k ≡ s k
unfolding digits
bit_digits zero s k p = absurd (not-suc-le-zero p)
bit_digits (suc n) s zero p =
    bit_low (digits (suc n) s) ∙ ap (λ (r : ℕ). eqb r 1) (digits_mod (digits n (λ k. s (suc k))) (num_lt (s zero))) ∙ odd_of (s zero)
bit_digits (suc n) s (suc k) p =
    bit_suc (digits (suc n) s) k
    ∙ ap (λ (r : ℕ). bit_of r k) (digits_div (digits n (λ k. s (suc k))) (num_lt (s zero)))
    ∙ bit_digits n (λ k. s (suc k)) k (le_of_suc-le-suc p)

-- the same of the word as a sum
pub sum_lt : (n : ℕ) (s : ℕ → Bool) → sum (λ b. bit (s b) * 2 ^ b) n < 2 ^ n
sum_lt n s = rw (digits_sum n s) (digits_lt n s)

pub bit_sum : (n : ℕ) (s : ℕ → Bool) (k : ℕ) → k < n → bit_of (sum (λ b. bit (s b) * 2 ^ b) n) k ≡ s k
bit_sum n s k p = rw (digits_sum n s) (bit_digits n s k p)

-- two words are equal when their bits are
pub bits_ext : (n a b : ℕ) → a < 2 ^ n → b < 2 ^ n → ((k : ℕ) → k < n → bit_of a k ≡ bit_of b k) → a ≡ b
bits_ext zero a b p q h = lt-one p ∙ sym (lt-one q)
bits_ext (suc n) a b p q h =
    let e = h zero (suc-le-suc zero-le) in
    let low : a % 2 ≡ b % 2 = sym (odd_bit a) ∙ ap bit (sym (bit_low a) ∙ e ∙ bit_low b) ∙ odd_bit b in
    let high : a / 2 ≡ b / 2 =
    bits_ext n (a / 2) (b / 2) (half_lt n a p) (half_lt n b q) (λ k l. sym (bit_suc a k) ∙ h (suc k) (suc-le-suc l) ∙ bit_suc b k) in
    omega arith

-- ---- counts

pub members_same : (s t : ℕ → Bool) (n : ℕ) → ((k : ℕ) → k < n → s k ≡ t k) → members s n ≡ members t n
unfolding members
members_same s t n h = sum_same (λ i. bit (s i)) (λ i. bit (t i)) n (λ k p. ap bit (h k p))

pub members_add : (s : ℕ → Bool) (a b : ℕ) → members s (a + b) ≡ members s a + members (λ k. s (a + k)) b
unfolding members
members_add s a b = sum_more (λ i. bit (s i)) a b

members_shift : (s : ℕ → Bool) (n : ℕ) → members s (suc n) ≡ bit (s zero) + members (λ k. s (suc k)) n
unfolding members
members_shift s zero = add_comm 0 (bit (s zero))
members_shift s (suc n) =
    ap (λ (x : ℕ). x + bit (s (suc n))) (members_shift s n) ∙ add_assoc (bit (s zero)) (members (λ k. s (suc k)) n) (bit (s (suc n)))

-- the ones of a word of n bits
pub ones_bits : (n w : ℕ) → w < 2 ^ n → ones w ≡ members (bit_of w) n
unfolding members ones
ones_bits zero w p = ap ones (lt-one p)
ones_bits (suc n) w p =
    ones_step w
    ∙ ap₂ (λ (x y : ℕ). x + y)
    (sym (odd_bit w) ∙ ap bit (sym (bit_low w)))
    (ones_bits n (w / 2) (half_lt n w p) ∙ members_same (bit_of (w / 2)) (λ k. bit_of w (suc k)) n (λ k l. sym (bit_suc w k)))
    ∙ sym (members_shift (bit_of w) n)

-- ---- a bit_of set

power_bit_of : (k : ℕ) → bit_of (2 ^ k) k ≡ true
power_bit_of zero = bit_low 1
power_bit_of (suc k) = bit_suc (2 ^ suc k) k ∙ ap (λ (w : ℕ). bit_of w k) (half k) ∙ power_bit_of k
  where
    half : (k : ℕ) → 2 ^ suc k / 2 ≡ 2 ^ k
    half k = let e = pow-suc 2 k in omega arith

power_else : (k j : ℕ) → (j ≡ k → ⊥) → bit_of (2 ^ k) j ≡ false
power_else zero zero h = absurd (h refl)
power_else zero (suc j) h = bit_suc 1 j ∙ none j
  where
    none : (j : ℕ) → bit_of 0 j ≡ false
    none zero = bit_low 0
    none (suc j) = bit_suc 0 j ∙ none j
power_else (suc k) zero h = let e = pow-suc 2 k in let z : 2 ^ suc k % 2 ≡ 0 = omega arith in bit_low (2 ^ suc k) ∙ rw z
power_else (suc k) (suc j) h =
    let e = pow-suc 2 k in
    let z : 2 ^ suc k / 2 ≡ 2 ^ k = omega arith in
    bit_suc (2 ^ suc k) j ∙ rw z (power_else k j (λ q. h (ap suc q)))

pub bit_none : (k : ℕ) → bit_of 0 k ≡ false
bit_none zero = bit_low 0
bit_none (suc k) = bit_suc 0 k ∙ bit_none k

max_or : (x y : ℕ) → x < 2 → y < 2 → eqb (max x y) 1 ≡ (eqb x 1 || eqb y 1)
max_or zero zero p q = refl
max_or zero (suc zero) p q = refl
max_or zero (suc (suc y)) p q = absurd (omega arith)
max_or (suc zero) zero p q = refl
max_or (suc zero) (suc zero) p q = refl
max_or (suc zero) (suc (suc y)) p q = absurd (omega arith)
max_or (suc (suc x)) y p q = absurd (omega arith)

bit_lt : (a b : ℕ) → max (a % 2) (b % 2) < 2
bit_lt a b = omega arith

pub bit_or_lem : (a b k : ℕ) → bit_of (bit_or a b) k ≡ (bit_of a k || bit_of b k)
bit_or_lem a b zero =
    bit_low (bit_or a b)
    ∙ ap (λ (r : ℕ). eqb r 1) (ap (λ (x : ℕ). x % 2) (or_step a b) ∙ digits_mod (bit_or (a / 2) (b / 2)) (bit_lt a b))
    ∙ max_or (a % 2) (b % 2) (two_low a) (two_low b)
    ∙ ap₂ (λ (x y : Bool). x || y) (sym (bit_low a)) (sym (bit_low b))
bit_or_lem a b (suc k) =
    bit_suc (bit_or a b) k
    ∙ ap (λ (w : ℕ). bit_of w k) (ap (λ (x : ℕ). x / 2) (or_step a b) ∙ digits_div (bit_or (a / 2) (b / 2)) (bit_lt a b))
    ∙ bit_or_lem (a / 2) (b / 2) k
    ∙ ap₂ (λ (x y : Bool). x || y) (sym (bit_suc a k)) (sym (bit_suc b k))

or_true : (x : Bool) → (x || true) ≡ true
or_true true = refl
or_true false = refl

or_false : (x : Bool) → (x || false) ≡ x
or_false true = refl
or_false false = refl

pub bit_set_here : (a k : ℕ) → bit_of (bit_or a (2 ^ k)) k ≡ true
bit_set_here a k = bit_or_lem a (2 ^ k) k ∙ ap (λ (x : Bool). bit_of a k || x) (power_bit_of k) ∙ or_true (bit_of a k)

pub bit_set_else : (a k j : ℕ) → (j ≡ k → ⊥) → bit_of (bit_or a (2 ^ k)) j ≡ bit_of a j
bit_set_else a k j h = bit_or_lem a (2 ^ k) j ∙ ap (λ (x : Bool). bit_of a j || x) (power_else k j h) ∙ or_false (bit_of a j)
