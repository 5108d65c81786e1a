-- Sums, multiples and quotients of integers that are written as a difference of two naturals, `sub_ℕ a b`. A claim on ℤ becomes one on ℕ, which `omega` proves.
-- Assumes nothing.
use mathlib.Core.Path.{◌≡◌, refl, sym, ap, ◌∙◌}
use mathlib.Core.Bool.{Bool, true, false, cond}
use Prim.Native.Nat.{ℕ, zero, suc, ◌+◌, ◌-◌, ◌*◌, ◌≤◌, ◌<◌}
use native.Mathlib.Nat.{mul-add}
use native.Mathlib.Omega.{arith}
use lib.Dec.{ltb}
use lib.IntN.{ℤ, pos, negsuc, neg_ℤ, sub_ℕ, ◌+ℤ◌, ◌*ℤ◌}
use borrow.Author.Tests.{lt-ltb, le-ltb, ltb-true, ltb-false}
use Rattle.steps.specs.Round.{Is}

pub sub_pos : (a b k : ℕ) → a ≡ b + k → sub_ℕ a b ≡ pos k
sub_pos a b k e = ap (λ (t : Bool). cond t (negsuc (b - suc a)) (pos (a - b))) (le-ltb a b (omega arith)) ∙ ap pos (omega arith)

pub sub_neg : (a b k : ℕ) → b ≡ suc (a + k) → sub_ℕ a b ≡ negsuc k
sub_neg a b k e = ap (λ (t : Bool). cond t (negsuc (b - suc a)) (pos (a - b))) (lt-ltb a b (omega arith)) ∙ ap negsuc (omega arith)

-- a difference is one of the two
pub by_sign : (P : ℤ → Type 0) (a b : ℕ) → ((k : ℕ) → a ≡ b + k → P (pos k)) → ((k : ℕ) → b ≡ suc (a + k) → P (negsuc k)) → P (sub_ℕ a b)
by_sign P a b f g = go (ltb a b) (ltb-true a b) (ltb-false a b)
  where
    go : (t : Bool) → (t ≡ true → a < b) → (t ≡ false → b ≤ a) → P (cond t (negsuc (b - suc a)) (pos (a - b)))
    go true x y = let h : a < b = x refl in g (b - suc a) (omega arith)
    go false x y = let h : b ≤ a = y refl in f (a - b) (omega arith)

pub sub_eq : (a b c d : ℕ) → a + d ≡ c + b → sub_ℕ a b ≡ sub_ℕ c d
sub_eq a b c d e = by_sign (λ (z : ℤ). z ≡ sub_ℕ c d) a b (λ k h. sym (sub_pos c d k (omega arith))) (λ k h. sym (sub_neg c d k (omega arith)))

pub sub_add : (a b c d : ℕ) → sub_ℕ a b +ℤ sub_ℕ c d ≡ sub_ℕ (a + c) (b + d)
sub_add a b c d =
    by_sign (λ (z : ℤ). z +ℤ sub_ℕ c d ≡ sub_ℕ (a + c) (b + d)) a b
    (λ k h.
    by_sign (λ (z : ℤ). pos k +ℤ z ≡ sub_ℕ (a + c) (b + d)) c d
    (λ l i. sym (sub_pos (a + c) (b + d) (k + l) (omega arith)))
    (λ l i. sub_eq k (suc l) (a + c) (b + d) (omega arith)))
    (λ k h.
    by_sign (λ (z : ℤ). negsuc k +ℤ z ≡ sub_ℕ (a + c) (b + d)) c d
    (λ l i. sub_eq l (suc k) (a + c) (b + d) (omega arith))
    (λ l i. sym (sub_neg (a + c) (b + d) (suc (k + l)) (omega arith))))

pub neg_sub : (m a b : ℕ) → b ≡ a + m → neg_ℤ (pos m) ≡ sub_ℕ a b
neg_sub zero a b e = sym (sub_pos a b 0 (omega arith))
neg_sub (suc m) a b e = sym (sub_neg a b m (omega arith))

pub sub_mul : (k a b : ℕ) → pos k *ℤ sub_ℕ a b ≡ sub_ℕ (k * a) (k * b)
sub_mul k a b =
    by_sign (λ (z : ℤ). pos k *ℤ z ≡ sub_ℕ (k * a) (k * b)) a b
    (λ l h. sym (sub_pos (k * a) (k * b) (k * l) (ap (λ (x : ℕ). k * x) h ∙ mul-add k b l)))
    (λ l h. neg_sub (k * suc l) (k * a) (k * b) (ap (λ (x : ℕ). k * x) (let e : b ≡ a + suc l = omega arith in e) ∙ mul-add k a (suc l)))

-- a mask over numbers that are written so is written so, by a term of the mask's own shape
pub plus : {x y : ℤ} {a b c d : ℕ} → Is x a b → Is y c d → Is (x +ℤ y) (a + c) (b + d)
plus {x} {y} {a} {b} {c} {d} p q = record { is = ap (λ (z : ℤ). z +ℤ y) p.is ∙ ap (λ (z : ℤ). sub_ℕ a b +ℤ z) q.is ∙ sub_add a b c d }

pub times : {x : ℤ} {a b : ℕ} (k : ℕ) → Is x a b → Is (pos k *ℤ x) (k * a) (k * b)
times {x} {a} {b} k p = record { is = ap (λ (z : ℤ). pos k *ℤ z) p.is ∙ sub_mul k a b }

pub self : (a b : ℕ) → Is (sub_ℕ a b) a b
self a b = record { is = refl }

pub self_pos : (a : ℕ) → Is (pos a) a 0
self_pos a = record { is = sym (sub_pos a 0 a (omega arith)) }
