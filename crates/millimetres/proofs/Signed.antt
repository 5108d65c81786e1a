-- What follows from the five base laws of rounding: for ±n / d, with a sign as a float has it, and for a fraction with a common factor. Assumes nothing.
use mathlib.Core.Path.{◌≡◌, refl, sym, ap, ◌∙◌, subst}
use mathlib.Core.Bool.{Bool, true, false}
use Prim.Native.Nat.{ℕ, zero, suc, ◌+◌, ◌-◌, ◌*◌, ◌%◌, ◌≤◌, ◌<◌}
use native.Mathlib.Nat.{mul-one, mul_right_comm, mul-le-mul_left, le_trans, add-mul}
use native.Mathlib.Omega.{arith}
use lib.IntN.{ℤ, pos, sub_ℕ}
use Rattle.mesh.specs.Limits.{most_units}
use Rattle.steps.specs.Round.{Is, rounded, round_nat}
use Rattle.steps.proofs.Ints.{sub_pos, sub_neg}
use Rattle.steps.proofs.Rounding.{rounded_sub, round_nat_same, round_nat_near, round_nat_le}
use Rattle.units.specs.Coordinate.{InRange}
use Rattle.units.proofs.Coordinates.{down_in}
use Rattle.millimetres.specs.Millimetres.{signed, toward}

-- ±n is a difference of two natural numbers
pub signed_is : (s : Bool) (n t : ℕ) → n ≤ t → Is (signed s n) (toward s t n) t
signed_is false n t h = record { is = sym (sub_pos (t + n) t n refl) }
signed_is true zero t h = record { is = sym (sub_pos (t - 0) t 0 (omega arith)) }
signed_is true (suc n) t h = record { is = sym (sub_neg (t - suc n) t n (omega arith)) }

-- it can be moved up by an even number, rounded there, and moved down
pub rounded_signed : (s : Bool) (n d b : ℕ) → 0 < d → b % 2 ≡ 0 → n ≤ b * d → rounded (signed s n) d ≡ sub_ℕ (round_nat (toward s (b * d) n) d) b
rounded_signed s n d b p e h = ap (λ (z : ℤ). rounded z d) (signed_is s n (b * d) h).is ∙ rounded_sub (toward s (b * d) n) b d p e

le_mul : (n k d : ℕ) → 0 < d → n ≤ k → n ≤ k * d
le_mul n k d p h = le_trans h (subst (λ (x : ℕ). x ≤ k * d) (mul-one k) (mul-le-mul_left k p))

-- equal fractions round alike
pub rounded_same : (s : Bool) (n d n' d' : ℕ) → 0 < d → 0 < d' → n * d' ≡ n' * d → rounded (signed s n) d ≡ rounded (signed s n') d'
rounded_same s n d n' d' p p' e =
    let b = 2 * (n + n') in
    let ev : b % 2 ≡ 0 = omega arith in
    let h : n ≤ b * d = le_mul n b d p (omega arith) in
    let h' : n' ≤ b * d' = le_mul n' b d' p' (omega arith) in
    rounded_signed s n d b p ev h
    ∙ ap (λ (x : ℕ). sub_ℕ x b) (round_nat_same (toward s (b * d) n) d (toward s (b * d') n') d' p p' (cross s b h h'))
    ∙ sym (rounded_signed s n' d' b p' ev h')
  where
    cross : (s : Bool) (b : ℕ) → n ≤ b * d → n' ≤ b * d' → toward s (b * d) n * d' ≡ toward s (b * d') n' * d
    cross false b h h' = add-mul (b * d) n d' ∙ ap (λ (x : ℕ). x + n * d') (mul_right_comm b d d') ∙ ap (λ (x : ℕ). b * d' * d + x) e ∙ sym (add-mul (b * d') n' d)
    cross true b h h' =
        let u = b * d - n in
        let u' = b * d' - n' in
        let x : u * d' + n * d' ≡ b * d * d' = sym (add-mul u n d') ∙ ap (λ (z : ℕ). z * d') (let y : u + n ≡ b * d = omega arith in y) in
        let x' : u' * d + n' * d ≡ b * d' * d = sym (add-mul u' n' d) ∙ ap (λ (z : ℕ). z * d) (let y : u' + n' ≡ b * d' = omega arith in y) in
        let w : b * d * d' ≡ b * d' * d = mul_right_comm b d d' in
        omega arith

-- less than a half is gone
pub rounded_tiny : (s : Bool) (n d : ℕ) → 2 * n < d → rounded (signed s n) d ≡ pos 0
rounded_tiny s n d h =
    rounded_signed s n d 2 (omega arith) refl (omega arith) ∙ ap (λ (x : ℕ). sub_ℕ x 2) (go s)
  where
    go : (s : Bool) → round_nat (toward s (2 * d) n) d ≡ 2
    go true = round_nat_near 2 (2 * d - n) d (omega arith) (omega arith)
    go false = round_nat_near 2 (2 * d + n) d (omega arith) (omega arith)

-- a whole number stays
pub rounded_whole : (s : Bool) (n : ℕ) → rounded (signed s n) 1 ≡ signed s n
rounded_whole s n =
    let b = 2 * n in
    let e : b * 1 ≡ b = mul-one b in
    let l : n ≤ b * 1 = omega arith in
    rounded_signed s n 1 b (omega arith) (omega arith) l
    ∙ ap (λ (x : ℕ). sub_ℕ x b) (round_nat_near (toward s (b * 1) n) (toward s (b * 1) n) 1 (omega (arith, mul-one (toward s (b * 1) n))) (omega (arith, mul-one (toward s (b * 1) n))))
    ∙ ap (λ (t : ℕ). sub_ℕ (toward s t n) b) e
    ∙ sym (signed_is s n b (omega arith)).is

-- a fraction that is in range stays so
pub rounded_in : (s : Bool) (n d : ℕ) → 0 < d → n ≤ most_units * d → InRange (rounded (signed s n) d)
rounded_in s n d p h =
    subst InRange (sym (rounded_signed s n d most_units p refl h))
    (down_in most_units (round_nat (toward s (most_units * d) n) d) (omega arith) (round_nat_le (most_units + most_units) (toward s (most_units * d) n) d p (go s)))
  where
    go : (s : Bool) → toward s (most_units * d) n ≤ (most_units + most_units) * d
    go true = omega arith
    go false = omega arith
