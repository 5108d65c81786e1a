-- The laws of `first` and `some`, the least number below a bound at which a test holds. Every search of the library cites these alone. Assumes nothing.
use Prim.Native.Nat.{ℕ, zero, suc, ◌+◌, ◌≤◌, ◌<◌}
use mathlib.Core.Path.{◌≡◌, refl, sym, ap, ◌∙◌}
use mathlib.Core.Bool.{Bool, true, false, cond, ◌||◌}
use mathlib.Core.Logic.{⊎_elim}
use native.Mathlib.Nat.{eq-or-lt_of_le, le_antisymm}
use native.Mathlib.Omega.{arith}
use borrow.Author.Count.{below_more}
use borrow.Author.Tests.{lt-ltb, le-ltb, ltb-true, ltb-false}
use Rattle.mesh.specs.Search.{first_from, first, some}

-- no number below i passes the test
pub record Clear (p : ℕ → Bool) (i : ℕ) : Type 0 where
  pub below : (k : ℕ) → k < i → p k ≡ false

pub clear_none : {p : ℕ → Bool} → Clear p 0
clear_none = record { below = λ k l. absurd (omega arith) }

pub clear_more : {p : ℕ → Bool} {i : ℕ} → Clear p i → p i ≡ false → Clear p (i + 1)
clear_more {p} {i} all here = record { below = below_more (λ (j : ℕ). p j ≡ false) i all.below here }

pub true_not_false : {b : Bool} → b ≡ true → b ≡ false → ⊥
true_not_false p q = let z : ◌≡◌ {A = Bool} true false = cc in let w : ◌≡◌ {A = ℕ} 0 1 = cc in omega arith

from_le : (p : ℕ → Bool) (n i : ℕ) → first_from p n i ≤ i + n
unfolding first_from
from_le p zero i = omega arith
from_le p (suc n) i = go (p i) (from_le p n (suc i))
  where
    go : (b : Bool) → first_from p n (suc i) ≤ suc i + n → cond b i (first_from p n (suc i)) ≤ i + suc n
    go true h = omega arith
    go false h = omega arith

from_clear : (p : ℕ → Bool) (n i k : ℕ) → i ≤ k → k < first_from p n i → p k ≡ false
unfolding first_from
from_clear p zero i k l h = absurd (omega arith)
from_clear p (suc n) i k l h = go (p i) refl (from_clear p n (suc i) k) h
  where
    go : (b : Bool) → p i ≡ b → (suc i ≤ k → k < first_from p n (suc i) → p k ≡ false) → k < cond b i (first_from p n (suc i)) → p k ≡ false
    go true e ih h' = absurd (omega arith)
    go false e ih h' = ⊎_elim (λ q. ap p (sym q) ∙ e) (λ m. ih m h') (eq-or-lt_of_le l)

from_at : (p : ℕ → Bool) (n i : ℕ) → first_from p n i < i + n → p (first_from p n i) ≡ true
unfolding first_from
from_at p zero i h = absurd (omega arith)
from_at p (suc n) i h = go (p i) refl (from_at p n (suc i)) h
  where
    go : (b : Bool) → p i ≡ b → (first_from p n (suc i) < suc i + n → p (first_from p n (suc i)) ≡ true)
        → cond b i (first_from p n (suc i)) < i + suc n → p (cond b i (first_from p n (suc i))) ≡ true
    go true e ih h' = e
    go false e ih h' = ih (omega arith)

pub first_le : (p : ℕ → Bool) (n : ℕ) → first p n ≤ n
unfolding first
first_le p n = let h = from_le p n 0 in omega arith

pub first_clear : (p : ℕ → Bool) (n : ℕ) → Clear p (first p n)
unfolding first
first_clear p n = record { below = λ k l. from_clear p n 0 k (omega arith) l }

pub first_at : (p : ℕ → Bool) (n : ℕ) → first p n < n → p (first p n) ≡ true
unfolding first
first_at p n l = from_at p n 0 (omega arith)

-- i is the first that passes
pub first_is : {p : ℕ → Bool} {n i : ℕ} → Clear p i → i < n → p i ≡ true → i ≡ first p n
first_is {p} {n} {i} all l here = le_antisymm i≤ ≤i
  where
    open_lt : {a b : ℕ} → (a < b → ⊥) → b ≤ a
    open_lt h = omega arith

    ≤i : first p n ≤ i
    ≤i = open_lt (λ h. true_not_false here ((first_clear p n).below i h))

    i≤ : i ≤ first p n
    i≤ = open_lt (λ h. true_not_false (first_at p n (omega arith)) (all.below (first p n) h))

-- the loop's end: i has come to n, and none passed
pub first_end : {p : ℕ → Bool} {n i : ℕ} → Clear p i → i ≤ n → n ≤ i → i ≡ first p n
first_end {p} {n} {i} all a b =
    le_antisymm a b ∙ ⊎_elim (λ q. sym q) (λ h. absurd (true_not_false (first_at p n h) (all.below (first p n) (omega arith)))) (eq-or-lt_of_le (first_le p n))

-- ---- `some`

pub some_lt : (p : ℕ → Bool) {n i : ℕ} → i ≡ first p n → i < n → some p n ≡ true
unfolding some
some_lt p {n} {i} e l = lt-ltb (first p n) n (omega arith)

pub some_not : (p : ℕ → Bool) {n i : ℕ} → i ≡ first p n → n ≤ i → some p n ≡ false
unfolding some
some_not p {n} {i} e l = le-ltb (first p n) n (omega arith)

pub some_is : {p : ℕ → Bool} {n i : ℕ} → Clear p i → i < n → p i ≡ true → true ≡ some p n
some_is {p} all l here = sym (some_lt p (first_is all l here) l)

-- a search that found none passed every number
pub some_all : (p : ℕ → Bool) (n : ℕ) → some p n ≡ false → Clear p n
unfolding some
some_all p n e = let h : n ≤ first p n = ltb-false (first p n) n e in record { below = λ k l. (first_clear p n).below k (omega arith) }

pub some_at : (p : ℕ → Bool) (n : ℕ) → some p n ≡ true → (first p n < n) × (p (first p n) ≡ true)
unfolding some
some_at p n e = let l : first p n < n = ltb-true (first p n) n e in (l, first_at p n l)

-- a disjunction that is false
pub or_false : (a b : Bool) → a || b ≡ false → (a ≡ false) × (b ≡ false)
or_false true b e = absurd (true_not_false refl e)
or_false false b e = (refl, e)

pub or_both : (a b : Bool) → a ≡ false → b ≡ false → a || b ≡ false
or_both a b p q = rw (p, q)

pub or_swap : (a b c : Bool) → a || (b || c) ≡ b || (a || c)
or_swap true true c = refl
or_swap true false c = refl
or_swap false b c = refl

pub or_comm : (a b : Bool) → a || b ≡ b || a
or_comm true true = refl
or_comm true false = refl
or_comm false true = refl
or_comm false false = refl

-- tests that hold alike, or fail alike
pub same_tests : (a b : Bool) → (a ≡ true → b ≡ true) → (b ≡ true → a ≡ true) → a ≡ b
same_tests true b f g = sym (f refl)
same_tests false true f g = g refl
same_tests false false f g = refl

pub same_failures : (a b : Bool) → (a ≡ false → b ≡ false) → (b ≡ false → a ≡ false) → a ≡ b
same_failures false b f g = sym (f refl)
same_failures true true f g = refl
same_failures true false f g = g refl

pub by_cases : (b : Bool) → (b ≡ true → ⊥) → b ≡ false
by_cases true h = absurd (h refl)
by_cases false h = refl

-- no number passes
pub none_some : (p : ℕ → Bool) (n : ℕ) → ((k : ℕ) → k < n → p k ≡ false) → some p n ≡ false
none_some p n h = by_cases (some p n) (λ e. let k = some_at p n e in true_not_false k.1 (h (first p n) k.0))

-- one number that passes is enough
pub some_true : (p : ℕ → Bool) (n i : ℕ) → i < n → p i ≡ true → some p n ≡ true
some_true p n i h e = go (some p n) refl
  where
    go : (b : Bool) → some p n ≡ b → some p n ≡ true
    go true k = k
    go false k = absurd (true_not_false e ((some_all p n k).below i h))

-- one number more, and several that do not pass
pub some_more : (p : ℕ → Bool) (n : ℕ) → some p (n + 1) ≡ some p n || p n
some_more p n =
    same_tests (some p (n + 1)) (some p n || p n)
    (λ e.
    let r = some_at p (n + 1) e in
    let i : ℕ = first p (n + 1) in
    ⊎_elim
    (λ q. or_comm (some p n) (p n) ∙ ap (λ (b : Bool). b || some p n) (ap p (sym q) ∙ r.1))
    (λ l. ap (λ (b : Bool). b || p n) (some_true p n i (omega arith) r.1))
    (eq-or-lt_of_le (let k : i ≤ n = omega arith in k)))
    (λ e. go (some p n) refl e)
  where
    go : (b : Bool) → some p n ≡ b → b || p n ≡ true → some p (n + 1) ≡ true
    go true k e = let r = some_at p n k in some_true p (n + 1) (first p n) (omega arith) r.1
    go false k e = some_true p (n + 1) n (omega arith) e

pub some_skip : (p : ℕ → Bool) (n k : ℕ) → ((i : ℕ) → n ≤ i → i < n + k → p i ≡ false) → some p (n + k) ≡ some p n
some_skip p n k none =
    same_tests (some p (n + k)) (some p n)
    (λ e.
    let r = some_at p (n + k) e in
    let i : ℕ = first p (n + k) in
    some_true p n i (below i (λ l. true_not_false r.1 (none i l r.0))) r.1)
    (λ e. let r = some_at p n e in some_true p (n + k) (first p n) (omega arith) r.1)
  where
    below : (i : ℕ) → (n ≤ i → ⊥) → i < n
    below i h = omega arith

-- tests that agree below n find the same number first
pub first_same : (p q : ℕ → Bool) (n : ℕ) → ((k : ℕ) → k < n → p k ≡ q k) → first p n ≡ first q n
first_same p q n same =
    let i : ℕ = first p n in
    let l : i ≤ n = first_le p n in
    let c : Clear q i = record { below = λ k h. sym (same k (omega arith)) ∙ (first_clear p n).below k h } in
    ⊎_elim (λ e. first_end c l (omega arith)) (λ h. first_is c h (sym (same i h) ∙ first_at p n h)) (eq-or-lt_of_le l)
