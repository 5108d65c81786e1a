-- Whole numbers lifted by an offset, so that those from some number on are natural; the order of the lifted ones is the order of the numbers.
-- Assumes nothing.
use mathlib.Core.Path.{◌≡◌, refl, sym}
use Prim.Native.Nat.{ℕ, suc, ◌+◌, ◌-◌, ◌≤◌}
use native.Mathlib.Omega.{arith}
use lib.Dec.{leb→le, le→leb}
use lib.IntN.{ℤ, pos, negsuc, nat_abs, sub_ℕ}
use lib.Signed.{◌≤ℤ◌}
use Rattle.steps.proofs.Ints.{sub_pos, sub_neg, by_sign}

-- how far below zero
abbrev pub depth : ℤ → ℕ
depth (pos n) = 0
depth (negsuc n) = suc n

-- z lifted by b, for a z that is not deeper than b
abbrev pub lifted : ℕ → ℤ → ℕ
lifted b (pos n) = b + n
lifted b (negsuc n) = b - suc n

pub lifted_is : (b : ℕ) (z : ℤ) → depth z ≤ b → z ≡ sub_ℕ (lifted b z) b
lifted_is b (pos n) h = sym (sub_pos (b + n) b n refl)
lifted_is b (negsuc n) h = sym (sub_neg (b - suc n) b n (omega arith))

pub depth_falls : (x y : ℤ) → x ≤ℤ y → depth y ≤ depth x
depth_falls x (pos m) h = omega arith
depth_falls (pos n) (negsuc m) h = absurd h.le
depth_falls (negsuc n) (negsuc m) h = omega (arith, leb→le m n h.le)

pub lifted_climbs : (b : ℕ) (x y : ℤ) → x ≤ℤ y → lifted b x ≤ lifted b y
lifted_climbs b (pos n) (pos m) h = omega (arith, leb→le n m h.le)
lifted_climbs b (pos n) (negsuc m) h = absurd h.le
lifted_climbs b (negsuc n) (pos m) h = omega arith
lifted_climbs b (negsuc n) (negsuc m) h = omega (arith, leb→le m n h.le)

pub above_lifted : (b m : ℕ) (x : ℤ) → depth x ≤ b → lifted b x ≤ m → x ≤ℤ sub_ℕ m b
above_lifted b m (pos n) d h = by_sign (λ z. pos n ≤ℤ z) m b (λ k e. record { le = le→leb n k (omega arith) }) (λ k e. absurd (omega arith))
above_lifted b m (negsuc n) d h = by_sign (λ z. negsuc n ≤ℤ z) m b (λ k e. record { le = tt }) (λ k e. record { le = le→leb k n (omega arith) })

pub below_lifted : (b m : ℕ) (y : ℤ) → depth y ≤ b → m ≤ lifted b y → sub_ℕ m b ≤ℤ y
below_lifted b m (pos n) d h = by_sign (λ z. z ≤ℤ pos n) m b (λ k e. record { le = le→leb k n (omega arith) }) (λ k e. record { le = tt })
below_lifted b m (negsuc n) d h = by_sign (λ z. z ≤ℤ negsuc n) m b (λ k e. absurd (omega arith)) (λ k e. record { le = le→leb n k (omega arith) })

-- a range around zero
pub near_both : (b : ℕ) (z : ℤ) → nat_abs z ≤ b → (sub_ℕ 0 b ≤ℤ z) × (z ≤ℤ pos b)
near_both b (pos n) h = (below_zero, record { le = le→leb n b h })
  where
    below_zero : sub_ℕ 0 b ≤ℤ pos n
    below_zero = by_sign (λ z. z ≤ℤ pos n) 0 b (λ k e. record { le = le→leb k n (omega arith) }) (λ k e. record { le = tt })
near_both b (negsuc n) h = (below_zero, record { le = tt })
  where
    below_zero : sub_ℕ 0 b ≤ℤ negsuc n
    below_zero = by_sign (λ z. z ≤ℤ negsuc n) 0 b (λ k e. absurd (omega arith)) (λ k e. record { le = le→leb n k (omega arith) })

pub both_near : (b : ℕ) (z : ℤ) → sub_ℕ 0 b ≤ℤ z → z ≤ℤ pos b → nat_abs z ≤ b
both_near b (pos n) l h = leb→le n b h.le
both_near b (negsuc n) l h = by_sign (λ z. z ≤ℤ negsuc n → suc n ≤ b) 0 b (λ k e g. absurd g.le) (λ k e g. omega (arith, leb→le n k g.le)) l
