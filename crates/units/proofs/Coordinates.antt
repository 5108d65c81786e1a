-- A coordinate at an `i32`, and moved up by an offset: the offset is any number that leaves no coordinate negative. Assumes nothing.
use mathlib.Core.Path.{◌≡◌, refl, sym, ap, ◌∙◌, subst}
use Prim.Native.Nat.{ℕ, zero, suc, ◌+◌, ◌-◌, ◌*◌, ◌%◌, ◌≤◌, ◌<◌}
use native.Mathlib.Nat.{mul-pos, mul_assoc, mul_left_comm}
use native.Mathlib.Omega.{arith}
use lib.IntN.{ℤ, pos, negsuc, nat_abs, neg_ℤ, sub_ℕ, ◌+ℤ◌, ◌-ℤ◌}
use mir.Syntax.{w32}
use mir.Val.{SFits, to_z, of_z}
use mir.ValLaws.{to_z-of_z, to_z_pos}
use Rattle.mesh.specs.Limits.{most_units}
use Rattle.steps.specs.Round.{Is, rounded}
use Rattle.steps.proofs.Rounding.{rounded_sub, round_nat_same}
use Rattle.steps.proofs.Ints.{sub_pos, sub_neg, sub_eq, by_sign, plus, self_pos}
use Rattle.units.specs.Coordinate.{InRange, Biased}

-- ---- what the machine holds

pub in_fits : (z : ℤ) → InRange z → SFits w32 z
in_fits (pos n) h = record { sfits = omega arith }
in_fits (negsuc n) h = record { sfits = omega arith }

-- what the machine reads back from a coordinate's bits is the coordinate
pub there : (z : ℤ) → InRange z → to_z w32 (of_z w32 z) ≡ z
there z h = to_z-of_z w32 z (in_fits z h)

-- so a coordinate that a call is handed is in range too
pub handed : (z : ℤ) → InRange z → InRange (to_z w32 (of_z w32 z))
handed z h = subst InRange (sym (there z h)) h

pub difference_fits : (a b : ℕ) → a < 2147483648 → b < 2147483648 → SFits w32 (sub_ℕ a b)
difference_fits a b h k = by_sign (SFits w32) a b (λ l e. record { sfits = omega arith }) (λ l e. record { sfits = omega arith })

neg_pos : (b : ℕ) → neg_ℤ (pos b) ≡ sub_ℕ 0 b
neg_pos zero = refl
neg_pos (suc b) = sym (sub_neg 0 (suc b) b (omega arith))

pub difference_is : (a b : ℕ) → a < 2147483648 → b < 2147483648 → to_z w32 a -ℤ to_z w32 b ≡ sub_ℕ a b
difference_is a b h k =
    ap (λ (z : ℤ). z -ℤ to_z w32 b) (to_z_pos w32 a h)
    ∙ ap (λ (z : ℤ). pos a -ℤ z) (to_z_pos w32 b k)
    ∙ (plus (self_pos a) (record { is = neg_pos b })).is
    ∙ sub_eq (a + 0) (0 + b) a b (omega arith)

-- ---- moved up by an offset, and down again

abbrev pub bias : ℕ → ℤ → ℕ
bias offset (pos k) = k + offset
bias offset (negsuc k) = offset - suc k

pub bias_is : (offset : ℕ) (z : ℤ) → nat_abs z ≤ offset → Is z (bias offset z) offset
bias_is offset (pos k) h = record { is = sym (sub_pos (k + offset) offset k (omega arith)) }
bias_is offset (negsuc k) h = record { is = sym (sub_neg (offset - suc k) offset k (omega arith)) }

pub bias_pos : (offset : ℕ) (z : ℤ) → nat_abs z ≤ offset → z +ℤ pos offset ≡ pos (bias offset z)
bias_pos offset (pos k) h = refl
bias_pos offset (negsuc k) h = sub_pos offset (suc k) (offset - suc k) (omega arith)

pub bias_le : (offset most : ℕ) (z : ℤ) → nat_abs z ≤ most → bias offset z ≤ offset + most
bias_le offset most (pos k) h = omega arith
bias_le offset most (negsuc k) h = omega arith

-- the machine's sum
pub bias_sum : (offset : ℕ) (z : ℤ) → most_units ≤ offset → offset + most_units < 2147483648 → InRange z
    → to_z w32 (of_z w32 (to_z w32 (of_z w32 z) +ℤ pos offset)) ≡ pos (bias offset z)
bias_sum offset z room fits h =
    ap (λ (x : ℤ). to_z w32 (of_z w32 (x +ℤ pos offset))) (there z h)
    ∙ ap (λ (x : ℤ). to_z w32 (of_z w32 x)) (bias_pos offset z (let l : nat_abs z ≤ offset = omega arith in l))
    ∙ to_z_pos w32 (bias offset z) (let l : bias offset z ≤ offset + most_units = bias_le offset most_units z h in omega arith)

pub down_in : (offset u : ℕ) → offset ≤ u + most_units → u ≤ offset + most_units → InRange (sub_ℕ u offset)
down_in offset u l h = by_sign InRange u offset (λ k e. omega arith) (λ k e. omega arith)

-- what a call of `biased` gives: its argument is read back from its bits
pub from : (z : ℤ) {offset u : ℕ} → InRange z → Biased offset (to_z w32 (of_z w32 z)) u → Is z u offset
from z h b = record { is = sym (there z h) ∙ b.moved.is }

-- what a call of `coordinate` gives, for a mask's x with weights that make up d
pub mean_is : {x r : ℤ} {n m : ℕ} (offset d : ℕ) → m ≡ offset * d → Is x n m → (r ≡ rounded (sub_ℕ n (offset * d)) d) × InRange r
    → (to_z w32 (of_z w32 r) ≡ rounded x d) × InRange (to_z w32 (of_z w32 r))
mean_is {x} {r} {n} offset d e i h = (there r h.1 ∙ h.0 ∙ ap (λ (z : ℤ). rounded z d) (ap (sub_ℕ n) (sym e) ∙ sym i.is), handed r h.1)

-- ---- a fraction

-- a common factor of the fraction can be taken out, where the offset comes in whole
pub rounded_factor : (k n b d : ℕ) → 0 < k → 0 < d → b % 2 ≡ 0 → rounded (sub_ℕ n (b * d)) d ≡ rounded (sub_ℕ (k * n) (b * (k * d))) (k * d)
rounded_factor k n b d p q e =
    rounded_sub n b d q e
    ∙ ap (λ (x : ℕ). sub_ℕ x b) (round_nat_same n d (k * n) (k * d) q (mul-pos p q) (mul_left_comm n k d ∙ sym (mul_assoc k n d)))
    ∙ sym (rounded_sub (k * n) b (k * d) (mul-pos p q) e)
