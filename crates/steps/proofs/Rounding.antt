-- The laws of rounding that masks, floats and code go by: it commutes with even whole numbers added, stays between whole numbers, and is one division.
-- Assumes nothing.
use mathlib.Core.Path.{◌≡◌, refl, sym, ap, ◌∙◌}
use Prim.Native.Nat.{ℕ, zero, suc, ◌+◌, ◌-◌, ◌*◌, ◌/◌, ◌%◌, ◌≤◌, ◌<◌}
use native.Mathlib.Nat.{lt_of_mul-lt-mul_right, div-add-mod', mod-lt, div-eq_of_lt-le, mul_left_comm, add-mul}
use native.Mathlib.Omega.{arith}
use lib.Ieee.Nearest.{closest_same}
use lib.IntN.{ℤ, sub_ℕ}
use Rattle.steps.specs.Round.{rounded, round_nat, NearestTo}
use Rattle.steps.proofs.Ints.{sub_pos, neg_sub, by_sign}
use Rattle.steps.proofs.RoundsToNearest.{by_rest, rounds_to_nearest, nearest_is_one}

-- What a change of the rule has to prove again: `by_rest`, `rounds_to_nearest`, `nearest_is_one`, `round_nat_same`, `round_nat_divided`.

-- a number that is as near as what is rounded is what is rounded
rounds_to : (n d r : ℕ) → 0 < d → NearestTo n d r → round_nat n d ≡ r
rounds_to n d r p h = nearest_is_one p (rounds_to_nearest n d p) h

-- a whole number that is at most a half over another is no greater
at_most_half : (a b d : ℕ) → 0 < d → 2 * (a * d) ≤ 2 * (b * d) + d → a ≤ b
at_most_half a b d p h =
    let t : (b + 1) * d ≡ b * d + 1 * d = add-mul b 1 d in
    let l : a < b + 1 = lt_of_mul-lt-mul_right d (let g : a * d < (b + 1) * d = omega arith in g) in
    omega arith

-- moved up by an even number
shift : (b k d : ℕ) → 0 < d → b % 2 ≡ 0 → round_nat (b * d + k) d ≡ b + round_nat k d
shift b k d p e =
    let r = round_nat k d in
    let h = rounds_to_nearest k d p in
    let t : (b + r) * d ≡ b * d + r * d = add-mul b r d in
    rounds_to (b * d + k) d (b + r) p
    (record {
      up = omega (arith, h.up);
      down = omega (arith, h.down);
      even_up = λ q. omega (arith, h.even_up (omega arith));
      even_down = λ q. omega (arith, h.even_down (omega arith));
    })

-- two numbers that make up an even number times d: so do they rounded
reflect : (n m b d : ℕ) → 0 < d → b % 2 ≡ 0 → n + m ≡ b * d → round_nat n d + round_nat m d ≡ b
reflect n m b d p e s =
    let r = round_nat m d in
    let h = rounds_to_nearest m d p in
    let l : r ≤ b = at_most_half r b d p (omega (arith, h.up)) in
    let t : (b - r + r) * d ≡ (b - r) * d + r * d = add-mul (b - r) r d in
    let u : (b - r + r) * d ≡ b * d = ap (λ (i : ℕ). i * d) (omega arith) in
    let g : round_nat n d ≡ b - r
    =
    rounds_to n d (b - r) p
    (record {
      up = omega (arith, h.down);
      down = omega (arith, h.up);
      even_up = λ q. omega (arith, h.even_down (omega arith));
      even_down = λ q. omega (arith, h.even_up (omega arith));
    }) in
    omega arith

pub rounded_sub : (n b d : ℕ) → 0 < d → b % 2 ≡ 0 → rounded (sub_ℕ n (b * d)) d ≡ sub_ℕ (round_nat n d) b
unfolding rounded
rounded_sub n b d p e =
    by_sign (λ (z : ℤ). rounded z d ≡ sub_ℕ (round_nat n d) b) n (b * d)
    (λ k h. sym (sub_pos (round_nat n d) b (round_nat k d) (ap (λ (x : ℕ). round_nat x d) h ∙ shift b k d p e)))
    (λ k h. neg_sub (round_nat (suc k) d) (round_nat n d) b (sym (reflect n (suc k) b d p e (omega arith))))

pub round_nat_ge : (lo n d : ℕ) → 0 < d → lo * d ≤ n → lo ≤ round_nat n d
round_nat_ge lo n d p h = at_most_half lo (round_nat n d) d p (omega (arith, (rounds_to_nearest n d p).down))

pub round_nat_le : (hi n d : ℕ) → 0 < d → n ≤ hi * d → round_nat n d ≤ hi
round_nat_le hi n d p h = at_most_half (round_nat n d) hi d p (omega (arith, (rounds_to_nearest n d p).up))

-- less than a half either way is gone
pub round_nat_near : (b m d : ℕ) → 2 * m < 2 * (b * d) + d → 2 * (b * d) < 2 * m + d → round_nat m d ≡ b
round_nat_near b m d h k =
    rounds_to m d b (omega arith) (record { up = omega arith; down = omega arith; even_up = λ e. omega arith; even_down = λ e. omega arith })

-- equal fractions round alike
pub round_nat_same : (a b c d : ℕ) → 0 < b → 0 < d → a * d ≡ c * b → round_nat a b ≡ round_nat c d
unfolding round_nat
round_nat_same = closest_same

-- rounding is one division: a half less a little is added to n, and a little more where the quotient is odd
module _ (n d : ℕ) (p : 0 < d) where
  abbrev lifted : ℕ
  lifted = 2 * n + (d - 1) + n / d % 2

  -- the quotient and b more, where the remainder says so
  divided : (b : ℕ) → b * d * 2 ≤ n % d * 2 + (d - 1) + n / d % 2 → n % d * 2 + (d - 1) + n / d % 2 < b * d * 2 + 2 * d
      → lifted / (2 * d) ≡ n / d + b
  divided b l u =
      let e : n / d * d + n % d ≡ n = div-add-mod' n d in
      let f : (n / d + b) * (2 * d) ≡ 2 * ((n / d + b) * d) = mul_left_comm (n / d + b) 2 d in
      let g : (n / d + b) * d ≡ n / d * d + b * d = add-mul (n / d) b d in
      let h : (n / d + b + 1) * (2 * d) ≡ (n / d + b) * (2 * d) + 1 * (2 * d) = add-mul (n / d + b) 1 (2 * d) in
      div-eq_of_lt-le (2 * d) (let k : (n / d + b) * (2 * d) ≤ lifted = omega arith in k) (let k : lifted < (n / d + b + 1) * (2 * d) = omega arith in k)

  half : (b : ℕ) → n / d % 2 ≡ b → b < 2 → n % d * 2 ≡ d → lifted / (2 * d) ≡ n / d + b
  half zero e l h = divided 0 (omega arith) (omega arith)
  half (suc zero) e l h = divided 1 (omega arith) (omega arith)
  half (suc (suc b)) e l h = absurd (omega arith)

  pub round_nat_divided : (2 * n + (d - 1) + n / d % 2) / (2 * d) ≡ round_nat n d
  round_nat_divided =
      by_rest (λ (x : ℕ). lifted / (2 * d) ≡ x) n d
      (λ h. divided 0 (omega arith) (omega arith) ∙ omega arith)
      (λ h. half (n / d % 2) refl (let l : n / d % 2 < 2 = omega arith in l) h)
      (λ h. divided 1 (omega arith) (omega (arith, mod-lt n p)) ∙ omega arith)
