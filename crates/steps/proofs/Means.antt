-- Means over whole numbers, worked out over natural numbers: each coordinate z is written c - b, and the rounded mean of the z is the rounded mean of the c, less b.
-- So a mean stays between the smallest and the largest of what it is taken of.
-- Assumes nothing.
use mathlib.Core.Path.{◌≡◌, refl, sym, ap, ap₂, ◌∙◌, subst}
use mathlib.Core.List.{List, [], ◌∷◌, map}
use Prim.Native.Nat.{ℕ, ◌+◌, ◌*◌, ◌%◌, ◌≤◌, ◌<◌}
use native.Mathlib.Nat.{mul-zero, mul-suc, mul-le-mul_left, mul-add, mul_comm}
use native.Mathlib.Omega.{arith}
use lib.IntN.{pos, sub_ℕ, nat_abs, ◌+ℤ◌, ◌*ℤ◌}
use lib.ListN.{length}
use Rattle.steps.specs.Round.{rounded, round_nat}
use Rattle.steps.specs.Mask.{Term, Mask, weighted, by_mask, term}
use Rattle.steps.proofs.Ints.{sub_add, sub_mul}
use Rattle.steps.proofs.Rounding.{rounded_sub, round_nat_ge, round_nat_le}

-- ---- masks that are means: no weight is negative, and the weights make up the divisor

abbrev pub total : List Term → ℕ
total [] = 0
total (t ∷ ts) = nat_abs t.weight + total ts

abbrev pub natural : List Term → (ℕ → ℕ) → ℕ
natural [] c = 0
natural (t ∷ ts) c = nat_abs t.weight * c t.source + natural ts c

abbrev pub NonNegative : List Term → Type 0
NonNegative [] = Unit {0}
NonNegative (t ∷ ts) = (t.weight ≡ pos (nat_abs t.weight)) × NonNegative ts

abbrev pub Between : ℕ → ℕ → (ℕ → ℕ) → List Term → Type 0
Between lo hi c [] = Unit {0}
Between lo hi c (t ∷ ts) = (lo ≤ c t.source) × ((c t.source ≤ hi) × Between lo hi c ts)

module _ (c : ℕ → ℕ) where
  weighted_offset : (b : ℕ) (ts : List Term) → NonNegative ts → weighted ts (λ v. sub_ℕ (c v) b) ≡ sub_ℕ (natural ts c) (b * total ts)
  weighted_offset b [] h = rw (mul-zero b)
  weighted_offset b (t ∷ ts) h =
      let w : ℕ = nat_abs t.weight in
      ap₂ (λ x y. (x *ℤ sub_ℕ (c t.source) b) +ℤ y) h.0 (weighted_offset b ts h.1)
      ∙ ap (λ x. x +ℤ sub_ℕ (natural ts c) (b * total ts)) (sub_mul w (c t.source) b)
      ∙ sub_add (w * c t.source) (w * b) (natural ts c) (b * total ts)
      ∙ ap (sub_ℕ (w * c t.source + natural ts c)) (omega (arith, mul-add b w (total ts), mul_comm w b))

  natural_between : (lo hi : ℕ) (ts : List Term) → Between lo hi c ts → (lo * total ts ≤ natural ts c) × (natural ts c ≤ hi * total ts)
  natural_between lo hi [] h = (omega (arith, mul-zero lo), omega (arith, mul-zero hi))
  natural_between lo hi (t ∷ ts) h =
      let w : ℕ = nat_abs t.weight in
      let r = natural_between lo hi ts h.1.1 in (
        omega (arith, mul-add lo w (total ts), mul_comm lo w, mul-le-mul_left w h.0),
        omega (arith, mul-add hi w (total ts), mul_comm hi w, mul-le-mul_left w h.1.0),
      )

  module _ (μ : Mask) (positive : 0 < μ.divisor) (mean : total μ.terms ≡ μ.divisor) where
    -- the mean of the c, rounded
    pub mean_of : ℕ
    mean_of = round_nat (natural μ.terms c) μ.divisor

    pub mean_offset : (b : ℕ) → b % 2 ≡ 0 → NonNegative μ.terms → by_mask μ (λ v. sub_ℕ (c v) b) ≡ sub_ℕ mean_of b
    unfolding by_mask mean_of
    mean_offset b even n =
        ap (λ z. rounded z μ.divisor) (weighted_offset b μ.terms n ∙ ap (λ x. sub_ℕ (natural μ.terms c) (b * x)) mean)
        ∙ rounded_sub (natural μ.terms c) b μ.divisor positive even

    pub mean_between : (lo hi : ℕ) → Between lo hi c μ.terms → (lo ≤ mean_of) × (mean_of ≤ hi)
    unfolding mean_of
    mean_between lo hi h =
        let d : ℕ = μ.divisor in
        let n : ℕ = natural μ.terms c in
        let r : (lo * d ≤ n) × (n ≤ hi * d) = subst (λ x. (lo * x ≤ n) × (n ≤ hi * x)) mean (natural_between lo hi μ.terms h) in
        (round_nat_ge lo n d positive r.0, round_nat_le hi n d positive r.1)

-- ---- one weight for each of a ring

pub total_ring : (w : ℕ) (l : List ℕ) → total (map (term w) l) ≡ w * length l
total_ring w [] = sym (mul-zero w)
total_ring w (a ∷ l) = omega (arith, total_ring w l, mul-suc w (length l))

pub nonneg_ring : (w : ℕ) (l : List ℕ) → NonNegative (map (term w) l)
nonneg_ring w [] = tt
nonneg_ring w (a ∷ l) = (refl, nonneg_ring w l)

-- ---- means

pub record IsMean (μ : Mask) : Type 0 where
  pub positive : 0 < μ.divisor
  pub mean : total μ.terms ≡ μ.divisor
  pub nonneg : NonNegative μ.terms
