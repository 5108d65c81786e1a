-- Lists of numbers: how often an entry stands there, how many are below a number, and sums.
-- Assumes nothing.
use mathlib.Core.Path.{◌≡◌, refl, sym, ap, ap₂, ◌∙◌}
use mathlib.Core.Bool.{Bool, true, false, cond}
use mathlib.Core.List.{List, [], ◌∷◌, ◌++◌}
use mathlib.Core.Logic.{◌⊎◌, inl, inr, ⊎_elim, ◌≢◌}
use Prim.Native.Nat.{ℕ, zero, suc, ◌+◌, ◌*◌, ◌≤◌, ◌<◌}
use native.Mathlib.Nat.{add-zero, add-suc, mul-zero, mul-suc, suc-mul, le_refl, le_trans, not-suc-le-zero}
use native.Mathlib.Decide.{le_ind}
use native.Mathlib.Omega.{arith}
use lib.Dec.{eqb, ltb, leb}
use lib.ListN.{length}
use borrow.Author.Tests.{ltb-true, ltb-false, leb-true, leb-false, eqb-true, eqb-false, lt-ltb, le-ltb, eq-eqb, ne_eqb}
use Rattle.mesh.specs.Search.{bit, sum, find}
use Rattle.mesh.specs.Ring.{times, ◌∈◌, Distinct}
use Rattle.mesh.specs.Numbering.{below}

-- a test with the fact it stands for
pub eq_split : (a b : ℕ) → ((eqb a b ≡ true) × (a ≡ b)) ⊎ ((eqb a b ≡ false) × (a ≢ b))
eq_split a b = go (eqb a b) refl
  where
    go : (t : Bool) → eqb a b ≡ t → ((eqb a b ≡ true) × (a ≡ b)) ⊎ ((eqb a b ≡ false) × (a ≢ b))
    go true e = inl (e, eqb-true a b e)
    go false e = inr (e, eqb-false a b e)

pub lt_split : (a b : ℕ) → ((ltb a b ≡ true) × (a < b)) ⊎ ((ltb a b ≡ false) × (b ≤ a))
lt_split a b = go (ltb a b) refl
  where
    go : (t : Bool) → ltb a b ≡ t → ((ltb a b ≡ true) × (a < b)) ⊎ ((ltb a b ≡ false) × (b ≤ a))
    go true e = inl (e, ltb-true a b e)
    go false e = inr (e, ltb-false a b e)

pub le_split : (a b : ℕ) → ((leb a b ≡ true) × (a ≤ b)) ⊎ ((leb a b ≡ false) × (b < a))
le_split a b = go (leb a b) refl
  where
    go : (t : Bool) → leb a b ≡ t → ((leb a b ≡ true) × (a ≤ b)) ⊎ ((leb a b ≡ false) × (b < a))
    go true e = inl (e, leb-true a b e)
    go false e = inr (e, leb-false a b e)

-- ---- entries

pub here : (a : ℕ) (l : List ℕ) → a ∈ a ∷ l
here a l = rw (eq-eqb a a refl) (omega arith)

pub there : (x a : ℕ) (l : List ℕ) → x ∈ l → x ∈ a ∷ l
there x a l h = omega arith

pub times_append : (x : ℕ) (k l : List ℕ) → times x (k ++ l) ≡ times x k + times x l
times_append x [] l = omega arith
times_append x (a ∷ k) l = omega (arith, times_append x k l)

pub distinct_tail : (a : ℕ) (l : List ℕ) → Distinct (a ∷ l) → Distinct l
distinct_tail a l d x = omega (arith, d x)

pub not_again : (a : ℕ) (l : List ℕ) → Distinct (a ∷ l) → a ∈ l → ⊥
not_again a l d m = omega (arith, rw (eq-eqb a a refl) at (d a))

-- ---- how many are below

bit_suc : (a k : ℕ) → bit (ltb a (suc k)) ≡ bit (ltb a k) + bit (eqb k a)
bit_suc a k =
    ⊎_elim
    (λ h. rw (lt-ltb a (suc k) (omega arith), h.0, ne_eqb k a (omega arith)))
    (λ h.
    ⊎_elim
    (λ g. rw (lt-ltb a (suc k) (omega arith), h.0, g.0))
    (λ g. rw (le-ltb a (suc k) (omega arith), h.0, g.0))
    (eq_split k a))
    (lt_split a k)

pub below_suc : (k : ℕ) (l : List ℕ) → below (suc k) l ≡ below k l + times k l
below_suc k [] = refl
below_suc k (a ∷ l) = omega (arith, bit_suc a k, below_suc k l)

pub below_zero : (l : List ℕ) → below 0 l ≡ 0
below_zero [] = refl
below_zero (a ∷ l) = rw (le-ltb a 0 (omega arith), below_zero l)

pub below_all : (n : ℕ) (l : List ℕ) → ((x : ℕ) → x ∈ l → x < n) → below n l ≡ length l
below_all n [] h = refl
below_all n (a ∷ l) h = rw (lt-ltb a n (h a (here a l))) (omega (arith, below_all n l (λ x m. h x (there x a l m))))

-- ---- stairs: a function that never falls

pub climbs : (f : ℕ → ℕ) → ((i : ℕ) → f i ≤ f (suc i)) → (i j : ℕ) → i ≤ j → f i ≤ f j
climbs f up i j h = le_ind (λ (m : ℕ). f i ≤ f m) (le_refl (f i)) (λ m k e. le_trans e (up m)) j h

pub find_step : (f : ℕ → ℕ) (x n : ℕ) → f 0 ≤ x → x < f n → (find f x n < n) × (f (find f x n) ≤ x) × (x < f (suc (find f x n)))
find_step f x zero z h = absurd (omega arith)
find_step f x (suc n) z h = go (find_step f x n z) (le_split (f n) x)
  where
    go : (x < f n → (find f x n < n) × (f (find f x n) ≤ x) × (x < f (suc (find f x n)))) → ((leb (f n) x ≡ true) × (f n ≤ x)) ⊎ ((leb (f n) x ≡ false) × (x < f n))
        → (find f x (suc n) < suc n) × (f (find f x (suc n)) ≤ x) × (x < f (suc (find f x (suc n))))
    go ih (inl g) = rw g.0 (omega arith, g.1, h)
    go ih (inr g) = rw g.0 (let r = ih g.1 in (omega arith, r.1, r.2))

pub one_step : (f : ℕ → ℕ) → ((i : ℕ) → f i ≤ f (suc i)) → (x i j : ℕ) → f i ≤ x → x < f (suc i) → f j ≤ x → x < f (suc j) → i ≡ j
one_step f up x i j a b c d =
    ⊎_elim
    (λ h. absurd (omega (arith, climbs f up (suc i) j h.1)))
    (λ h. ⊎_elim (λ g. absurd (omega (arith, climbs f up (suc j) i g.1))) (λ g. omega arith) (lt_split j i))
    (lt_split i j)

-- ---- sums

pub sum_same : (f g : ℕ → ℕ) (n : ℕ) → ((i : ℕ) → i < n → f i ≡ g i) → sum f n ≡ sum g n
sum_same f g zero h = refl
sum_same f g (suc n) h = ap₂ (λ a b. a + b) (sum_same f g n (λ i k. h i (omega arith))) (h n (omega arith))

pub sum_zero : (f : ℕ → ℕ) (n : ℕ) → ((i : ℕ) → i < n → f i ≡ 0) → sum f n ≡ 0
sum_zero f zero h = refl
sum_zero f (suc n) h = omega (arith, sum_zero f n (λ i k. h i (omega arith)), h n (omega arith))

pub sum_const : (f : ℕ → ℕ) (c n : ℕ) → ((i : ℕ) → i < n → f i ≡ c) → sum f n ≡ c * n
sum_const f c zero h = sym (mul-zero c)
sum_const f c (suc n) h = ap₂ (λ a b. a + b) (sum_const f c n (λ i k. h i (omega arith))) (h n (omega arith)) ∙ sym (mul-suc c n)

pub sum_add : (f g : ℕ → ℕ) (n : ℕ) → sum (λ i. f i + g i) n ≡ sum f n + sum g n
sum_add f g zero = refl
sum_add f g (suc n) = omega (arith, sum_add f g n)

pub sum_more : (f : ℕ → ℕ) (n k : ℕ) → sum f (n + k) ≡ sum f n + sum (λ i. f (n + i)) k
sum_more f n zero = ap (sum f) (add-zero n) ∙ sym (add-zero (sum f n))
sum_more f n (suc k) = ap (sum f) (add-suc n k) ∙ omega (arith, sum_more f n k)

pub sum_swap : (f : ℕ → ℕ → ℕ) (n k : ℕ) → sum (λ i. sum (f i) k) n ≡ sum (λ j. sum (λ i. f i j) n) k
sum_swap f zero k = sym (sum_zero (λ j. 0) k (λ i h. refl))
sum_swap f (suc n) k = ap (λ a. a + sum (f n) k) (sum_swap f n k) ∙ sym (sum_add (λ j. sum (λ i. f i j) n) (f n) k)

-- a sum with one term
pub sum_pick : (a c n : ℕ) → a < n → sum (λ q. cond (eqb q a) c 0) n ≡ c
sum_pick a c zero h = absurd (not-suc-le-zero h)
sum_pick a c (suc n) h = go (λ k. sum_pick a c n k) (eq_split n a)
  where
    go : (a < n → sum (λ q. cond (eqb q a) c 0) n ≡ c) → ((eqb n a ≡ true) × (n ≡ a)) ⊎ ((eqb n a ≡ false) × (n ≢ a)) → sum (λ q. cond (eqb q a) c 0) (suc n) ≡ c
    go ih (inl e) = rw e.0 (omega (arith, sum_zero (λ q. cond (eqb q a) c 0) n (λ i k. rw (ne_eqb i a (omega arith)))))
    go ih (inr e) = rw e.0 (omega (arith, ih (omega arith)))

bit_cond : (b : Bool) → bit b ≡ cond b 1 0
bit_cond true = refl
bit_cond false = refl

-- a list is as long as its entries are often in it
pub sum_times : (n : ℕ) (l : List ℕ) → ((x : ℕ) → x ∈ l → x < n) → sum (λ q. times q l) n ≡ length l
sum_times n [] h = sum_zero (λ q. 0) n (λ i k. refl)
sum_times n (a ∷ l) h =
    sum_add (λ q. bit (eqb q a)) (λ q. times q l) n
    ∙ omega (arith, sum_same _ _ n (λ q k. bit_cond (eqb q a)) ∙ sum_pick a 1 n (h a (here a l)), sum_times n l (λ x m. h x (there x a l m)))

-- a sum of n numbers that are at most m
pub sum_bounded : (f : ℕ → ℕ) (m n : ℕ) → ((i : ℕ) → i < n → f i ≤ m) → sum f n ≤ n * m
sum_bounded f m zero h = omega arith
sum_bounded f m (suc n) h = omega (arith, sum_bounded f m n (λ i k. h i (omega arith)), h n (omega arith), suc-mul n m)
