-- Rounding is to the nearest whole number, halves to the even one (document 02, order 2): what is rounded is as near as that, no other number is,
-- and it is the same on both sides of 0. Assumes nothing.
use mathlib.Core.Path.{◌≡◌, refl, sym, ap, ◌∙◌, subst}
use mathlib.Core.Bool.{not}
use mathlib.Core.Logic.{inl, inr}
use Prim.Native.Nat.{ℕ, zero, suc, ◌+◌, ◌*◌, ◌/◌, ◌%◌, ◌≤◌, ◌<◌, compare, Ordering}
use native.Mathlib.Nat.{add-zero, zero-mul, le_antisymm, le_of_mul-le-mul_right, eq-or-lt_of_le, div-add-mod', mod-lt, add-mul}
use native.Mathlib.Numerals.{add-one}
use native.Mathlib.Omega.{arith}
use lib.Arith.{lt_of_le-ne}
use lib.Dec.{T, is_le, compare_is_eq, eqb, leb→le, nleb→lt, eqb→eq, eqb_refl, lit<}
use lib.Ieee.{nearest}
use lib.IntN.{ℤ, pos, negsuc, neg_ℤ, neg_ℤ-neg_ℤ}
use Rattle.steps.specs.Round.{rounded, round_nat, NearestTo}

-- the definition, by the three cases of twice the remainder
pub by_rest : (P : ℕ → Type 0) (n d : ℕ) → (n % d * 2 < d → P (n / d)) → (n % d * 2 ≡ d → P (n / d + n / d % 2)) → (d < n % d * 2 → P (suc (n / d)))
    → P (round_nat n d)
unfolding round_nat
by_rest P n d f g h =
    go (compare (n % d * 2) d) (leb→le (n % d * 2) d) (nleb→lt (n % d * 2) d) (eqb→eq (n % d * 2) d)
    (λ (e : n % d * 2 ≡ d). subst (λ (x : ℕ). T (eqb (n % d * 2) x)) e (eqb_refl (n % d * 2)))
  where
    go : (o : Ordering) → (T (is_le o) → n % d * 2 ≤ d) → (T (not (is_le o)) → d < n % d * 2) → (T (compare_is_eq o) → n % d * 2 ≡ d) → (n % d * 2 ≡ d → T (compare_is_eq o))
        → P (nearest (n / d) o)
    go Ordering.lt a b c e = f (lt_of_le-ne (a tt) e)
    go Ordering.eq a b c e = g (c tt)
    go Ordering.gt a b c e = h (b tt)

-- the quotient or the next number, by twice the remainder
near : (n d b : ℕ) → b < 2 → (b ≡ 0 → n % d * 2 ≤ d) → (b ≡ 1 → d ≤ n % d * 2) → (n % d * 2 ≡ d → (n / d + b) % 2 ≡ 0) → 0 < d
    → NearestTo n d (n / d + b)
near n d zero l low high even p =
    let e : n / d * d + n % d ≡ n = div-add-mod' n d in
    let t : (n / d + 0) * d ≡ n / d * d + 0 * d = add-mul (n / d) 0 d in
    let h = low refl in
    record { up = omega arith; down = omega arith; even_up = λ k. omega arith; even_down = λ k. even (omega arith) }
near n d (suc zero) l low high even p =
    let e : n / d * d + n % d ≡ n = div-add-mod' n d in
    let m : n % d < d = mod-lt n p in
    let t : (n / d + 1) * d ≡ n / d * d + 1 * d = add-mul (n / d) 1 d in
    let h = high refl in
    record { up = omega arith; down = omega arith; even_up = λ k. even (omega arith); even_down = λ k. omega arith }
near n d (suc (suc b)) l low high even p = absurd (omega arith)

pub rounds_to_nearest : (n d : ℕ) → 0 < d → NearestTo n d (round_nat n d)
rounds_to_nearest n d p =
    by_rest (NearestTo n d) n d
    (λ h. subst (NearestTo n d) (add-zero (n / d)) (near n d 0 (lit< tt) (λ z. omega arith) (λ z. omega arith) (λ z. omega arith) p))
    (λ h. near n d (n / d % 2) (omega arith) (λ z. omega arith) (λ z. omega arith) (λ z. omega arith) p)
    (λ h. subst (NearestTo n d) (add-one (n / d)) (near n d 1 (lit< tt) (λ z. omega arith) (λ z. omega arith) (λ z. omega arith) p))

-- of two numbers that are so near neither is greater: if one were, it would be the next, and both even
at_most : {n d r s : ℕ} → 0 < d → NearestTo n d r → NearestTo n d s → r ≤ s
at_most {n} {d} {r} {s} p a b =
    let t : (s + 1) * d ≡ s * d + 1 * d = add-mul s 1 d in
    let l : r ≤ s + 1 = le_of_mul-le-mul_right (let h : r * d ≤ (s + 1) * d = omega (arith, a.up, b.down) in h) p in
    elim (eq-or-lt_of_le l) [
      | inl e ↦
          let q : r * d ≡ (s + 1) * d = ap (λ (i : ℕ). i * d) e in
          omega (arith, a.even_up (omega (arith, a.up, b.down)), b.even_down (omega (arith, a.up, b.down)))
      | inr h ↦ omega arith
    ]

pub nearest_is_one : {n d r s : ℕ} → 0 < d → NearestTo n d r → NearestTo n d s → r ≡ s
nearest_is_one p a b = le_antisymm (at_most p a b) (at_most p b a)

pub rounding_is_symmetric : (n : ℤ) (d : ℕ) → 0 < d → rounded (neg_ℤ n) d ≡ neg_ℤ (rounded n d)
unfolding rounded
rounding_is_symmetric (pos zero) d p = ap pos zero_rounded ∙ sym (ap (λ (k : ℕ). neg_ℤ (pos k)) zero_rounded)
  where
    zero_rounded : round_nat 0 d ≡ 0
    zero_rounded =
        let t : 0 * d ≡ 0 = zero-mul d in
        nearest_is_one p (rounds_to_nearest 0 d p) (record { up = omega arith; down = omega arith; even_up = λ k. refl; even_down = λ k. refl })
rounding_is_symmetric (pos (suc k)) d p = refl
rounding_is_symmetric (negsuc k) d p = sym (neg_ℤ-neg_ℤ (pos (round_nat (suc k) d)))
