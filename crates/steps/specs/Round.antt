-- To be believed.
-- Rounding to the nearest whole number, halves to the even one: document 01's section "Refinement, one level" as document 02's order 2 has it.
-- Assumes nothing.
use Rattle.std.specs.Prelude.{◌≡◌, ℤ, pos, negsuc, neg_ℤ}
use Prim.Native.Nat.{ℕ, suc, ◌+◌, ◌*◌, ◌/◌, ◌%◌, ◌≤◌, compare}
use Rattle.std.specs.Float.Ieee.{nearest}
use Rattle.std.proofs.Math.IntN.{sub_ℕ}

-- n / d rounded: the quotient, or the next number where twice the remainder is over d; where it is d, the even one of them
unfoldable pub round_nat : ℕ → ℕ → ℕ
round_nat n d = nearest (n / d) (compare (n % d * 2) d)

-- the same for any n, by its sign
unfoldable pub rounded : ℤ → ℕ → ℤ
rounded (pos k) d = pos (round_nat k d)
rounded (negsuc k) d = neg_ℤ (pos (round_nat (suc k) d))

-- what is meant: r is no further than a half from n / d, and even where it is that far
pub record NearestTo (n d r : ℕ) : Type 0 where
  pub up : 2 * (r * d) ≤ 2 * n + d
  pub down : 2 * n ≤ 2 * (r * d) + d
  pub even_up : 2 * (r * d) ≡ 2 * n + d → r % 2 ≡ 0
  pub even_down : 2 * n ≡ 2 * (r * d) + d → r % 2 ≡ 0

-- z is a - b
pub record Is (z : ℤ) (a b : ℕ) : Type 0 where
  pub is : z ≡ sub_ℕ a b
