-- Floats on the two sides of 0: the same digits and exponent with the other sign, or both 0, whatever their signs. Sums of such pairs and products
-- with one number are such pairs again; they are in range alike, and their units are negatives: the machine rounds alike on both sides.
-- Assumes nothing.
use mathlib.Core.Path.{◌≡◌, refl, sym, ap, ◌∙◌}
use mathlib.Core.Bool.{Bool, true, false, not, ◌&&◌, ◌||◌, beq, cond}
use mathlib.Core.Logic.{◌⊎◌, inl, inr, ⊎_elim}
use Prim.Native.Nat.{ℕ, zero, suc, ◌+◌, ◌-◌, ◌*◌, ◌/◌, ◌^◌, ◌<◌}
use native.Mathlib.Nat.{mul-pos, zero-mul}
use native.Mathlib.Omega.{arith}
use lib.Dec.{ltb, eqb, lit<}
use lib.IntN.{ℤ, pos, negsuc, neg_ℤ, neg_ℤ-neg_ℤ}
use lib.Pow.{pow_pos}
use lib.Count.{count_trailing_zeros}
use lib.Ieee.{Float, nan, inf, fin, Format, prec, emax, low, up, down, minus, unlike, odd, units, round, sum, add, mul, neg, le, lt, eq, binary64}
use lib.Ieee.Exact.{round_exact}
use lib.Ieee.Fits.{up_pos, down_pos}
use borrow.Author.Tests.{lt-ltb, le-ltb, eq-eqb, ne_eqb}
use Rattle.mesh.specs.Limits.{units_in_millimetre}
use Rattle.mesh.proofs.Lists.{eq_split, lt_split}
use Rattle.steps.proofs.RoundsToNearest.{rounding_is_symmetric}
use Rattle.millimetres.specs.Millimetres.{signed, inside, units_of, mm_unit}

-- a number and its sign on the one side and on the other: the sign differs, or the number is 0
abbrev opposite : Bool → Bool → ℕ → Type 0
opposite s t m = (m ≡ 0) ⊎ (t ≡ not s)

-- x and y lie opposite each other
pub data Opposed : Float → Float → Type 0 where
  nans : Opposed nan nan
  infs : (s : Bool) → Opposed (inf s) (inf (not s))
  fins : (s t : Bool) (m : ℕ) (e : ℤ) → (m ≡ 0) ⊎ (t ≡ not s) → Opposed (fin s m e) (fin t m e)

pub neg_opposed : (x : Float) → Opposed x (neg x)
unfolding neg
neg_opposed nan = nans
neg_opposed (inf s) = infs s
neg_opposed (fin s m e) = fins s (not s) m e (inr refl)

-- ---- rounding: what is kept does not depend on the sign

shape : (d q k l : ℕ) → (m : ℕ) × (e : ℤ) × ((s : Bool) → odd d s q k l ≡ fin s m e)
unfolding odd count_trailing_zeros
shape d zero k l = (zero, pos zero, λ s. refl)
shape d (suc q) k l = (suc q / 2 ^ count_trailing_zeros d (suc q), minus (k + count_trailing_zeros d (suc q)) l, λ s. refl)

abbrev Kept : (Bool → Float) → Type 0
Kept f = ((m : ℕ) × (e : ℤ) × ((s : Bool) → f s ≡ fin s m e)) ⊎ ((s : Bool) → f s ≡ inf s)

units_kept : (f : Format) (q k : ℕ) → Kept (λ s. units f s q k)
unfolding units
units_kept f q k = go (ltb (q * 2 ^ k) (2 ^ (low f + suc (emax f))))
  where
    go : (b : Bool) → Kept (λ s. cond b (odd (suc (prec f)) s q k (low f)) (inf s))
    go true = inl (shape (suc (prec f)) q k (low f))
    go false = inr (λ s. refl)

kept_opposed : (f : Bool → Float) → Kept f → (s : Bool) → Opposed (f s) (f (not s))
kept_opposed f (inl k) s = rw (k.2 s, k.2 (not s)) (fins s (not s) k.0 k.1 (inr refl))
kept_opposed f (inr k) s = rw (k s, k (not s)) (infs s)

round_opposed : (f : Format) (n d : ℕ) (s : Bool) → Opposed (round f s n d) (round f (not s) n d)
unfolding round
round_opposed f n d s = kept_opposed (λ s. round f s n d) (units_kept f _ _) s

-- nothing rounds to a zero, of either sign
round_zero : (f : Format) (d : ℕ) → 0 < d → (s t : Bool) → Opposed (round f s 0 d) (round f t 0 d)
unfolding round
round_zero f d p s t = go (units_kept f _ _)
  where
    zero_of : (m : ℕ) (e : ℤ) → m * up e * d ≡ 0 * down e → m ≡ 0
    zero_of zero e h = refl
    zero_of (suc m) e h =
        let z : 0 < suc m = omega arith in
        absurd (let q : 0 < suc m * up e * d = mul-pos (mul-pos z (up_pos e)) p in omega (arith, zero-mul (down e)))

    go : Kept (λ s. round f s 0 d) → Opposed (round f s 0 d) (round f t 0 d)
    go (inl k) =
        let v = round_exact f s 0 d 0 0 p (pow_pos (prec f)) (pow_pos (low f + suc (emax f))) (zero-mul (2 ^ low f) ∙ sym (zero-mul d)) in
        let w = rw (k.2 s) at v in
        rw (k.2 s, k.2 t) (fins s t k.0 k.1 (inl (zero_of k.0 k.1 w.1)))
    go (inr k) =
        let v = round_exact f s 0 d 0 0 p (pow_pos (prec f)) (pow_pos (low f + suc (emax f))) (zero-mul (2 ^ low f) ∙ sym (zero-mul d)) in
        absurd (rw (k s) at v)

-- ---- sums

module _ (f : Format) (c : ℕ) (p : 0 < c) where
  -- with one of the two numbers 0 the other is rounded, with its sign
  sum_left : (s t : Bool) (b : ℕ) → 0 < b → sum f s 0 t b c ≡ round f t b c
  unfolding sum
  sum_left true true b h = ap (λ n. round f true n c) (let e : 0 + b ≡ b = omega arith in e)
  sum_left false false b h = ap (λ n. round f false n c) (let e : 0 + b ≡ b = omega arith in e)
  sum_left true false b h = rw (lt-ltb 0 b h) (ap (λ n. round f false n c) (let e : b - 0 ≡ b = omega arith in e))
  sum_left false true b h = rw (lt-ltb 0 b h) (ap (λ n. round f true n c) (let e : b - 0 ≡ b = omega arith in e))

  sum_right : (s t : Bool) (a : ℕ) → 0 < a → sum f s a t 0 c ≡ round f s a c
  unfolding sum
  sum_right true true a h = ap (λ n. round f true n c) (let e : a + 0 ≡ a = omega arith in e)
  sum_right false false a h = ap (λ n. round f false n c) (let e : a + 0 ≡ a = omega arith in e)
  sum_right true false a h = rw (le-ltb a 0 (omega arith), lt-ltb 0 a h) (ap (λ n. round f true n c) (let e : a - 0 ≡ a = omega arith in e))
  sum_right false true a h = rw (le-ltb a 0 (omega arith)) (ap (λ n. round f false n c) (let e : a - 0 ≡ a = omega arith in e))

  sum_none : (s t : Bool) → sum f s 0 t 0 c ≡ round f (s && t) 0 c
  unfolding sum
  sum_none true true = refl
  sum_none false false = refl
  sum_none true false = refl
  sum_none false true = refl

  sum_flipped : (s t : Bool) (a b : ℕ) → Opposed (sum f s a t b c) (sum f (not s) a (not t) b c)
  unfolding sum
  sum_flipped true true a b = round_opposed f (a + b) c true
  sum_flipped false false a b = round_opposed f (a + b) c false
  sum_flipped true false a b =
      ⊎_elim
      (λ l. rw l.0 (round_opposed f (b - a) c false))
      (λ l.
      rw l.0
      (⊎_elim
      (λ k. rw k.0 (round_opposed f (a - b) c true))
      (λ k. rw (k.0, (let e : a - b ≡ 0 = omega arith in e)) (round_zero f c p false false))
      (lt_split b a)))
      (lt_split a b)
  sum_flipped false true a b =
      ⊎_elim
      (λ l. rw l.0 (round_opposed f (b - a) c true))
      (λ l.
      rw l.0
      (⊎_elim
      (λ k. rw k.0 (round_opposed f (a - b) c false))
      (λ k. rw (k.0, (let e : a - b ≡ 0 = omega arith in e)) (round_zero f c p false false))
      (lt_split b a)))
      (lt_split a b)

  sum_opposed : (s s' t t' : Bool) (a b : ℕ) → opposite s s' a → opposite t t' b → Opposed (sum f s a t b c) (sum f s' a t' b c)
  sum_opposed s s' t t' a b x y =
      ⊎_elim
      (λ i.
      ⊎_elim
      (λ j. rw (i.1, j.1) (rw (sum_none s t, sum_none s' t') (round_zero f c p (s && t) (s' && t'))))
      (λ j. rw i.1 (rw (sum_left s t b (omega (arith, j.1)), sum_left s' t' b (omega (arith, j.1))) (flip t t' b y j.1)))
      (eq_split b 0))
      (λ i.
      ⊎_elim
      (λ j. rw j.1 (rw (sum_right s t a (omega (arith, i.1)), sum_right s' t' a (omega (arith, i.1))) (flip s s' a x i.1)))
      (λ j. rw (sign s s' a x i.1, sign t t' b y j.1) (sum_flipped s t a b))
      (eq_split b 0))
      (eq_split a 0)
    where
      sign : (s s' : Bool) (a : ℕ) → opposite s s' a → (a ≡ 0 → ⊥) → s' ≡ not s
      sign s s' a (inl e) n = absurd (n e)
      sign s s' a (inr e) n = e

      flip : (s s' : Bool) (a : ℕ) → opposite s s' a → (a ≡ 0 → ⊥) → Opposed (round f s a c) (round f s' a c)
      flip s s' a x n = rw (sign s s' a x n) (round_opposed f a c s)

-- ---- the operations

scale : (s t : Bool) (m a b : ℕ) → opposite s t m → opposite s t (m * a * b)
scale s t m a b (inl h) = inl (rw h (ap (λ z. z * b) (zero-mul a) ∙ zero-mul b))
scale s t m a b (inr h) = inr h

pub add_opposed : (f : Format) (x x' y y' : Float) → Opposed x x' → Opposed y y' → Opposed (add f x y) (add f x' y')
unfolding add
add_opposed f _ _ y y' nans q = nans
add_opposed f _ _ _ _ (infs s) nans = nans
add_opposed f _ _ _ _ (infs s) (infs t) = go s t
  where
    go : (s t : Bool) → Opposed (cond (beq s t) (inf s) nan) (cond (beq (not s) (not t)) (inf (not s)) nan)
    go true true = infs true
    go true false = nans
    go false true = nans
    go false false = infs false
add_opposed f _ _ _ _ (infs s) (fins t t' n d q) = infs s
add_opposed f _ _ _ _ (fins s s' m e o) nans = nans
add_opposed f _ _ _ _ (fins s s' m e o) (infs t) = infs t
add_opposed f _ _ _ _ (fins s s' m e o) (fins t t' n d q) =
    sum_opposed f (down e * down d) (mul-pos (down_pos e) (down_pos d)) s s' t t' (m * up e * down d) (n * up d * down e)
    (scale s s' m (up e) (down d) o) (scale t t' n (up d) (down e) q)

unlike_not : (s t : Bool) → unlike (not s) t ≡ not (unlike s t)
unlike_not true true = refl
unlike_not true false = refl
unlike_not false true = refl
unlike_not false false = refl

-- a product with one number on both sides
pub mul_opposed : (f : Format) (x x' y : Float) → Opposed x x' → Opposed (mul f x y) (mul f x' y)
unfolding mul
mul_opposed f _ _ y nans = nans
mul_opposed f _ _ nan (infs s) = nans
mul_opposed f _ _ (inf t) (infs s) = rw (unlike_not s t) (infs (unlike s t))
mul_opposed f _ _ (fin t n d) (infs s) = go (eqb n 0)
  where
    go : (b : Bool) → Opposed (cond b nan (inf (unlike s t))) (cond b nan (inf (unlike (not s) t)))
    go true = nans
    go false = rw (unlike_not s t) (infs (unlike s t))
mul_opposed f _ _ nan (fins s s' m e o) = nans
mul_opposed f _ _ (inf t) (fins s s' m e o) = go o
  where
    go : opposite s s' m → Opposed (cond (eqb m 0) nan (inf (unlike s t))) (cond (eqb m 0) nan (inf (unlike s' t)))
    go (inl h) = rw (eq-eqb m 0 h) nans
    go (inr h) = ⊎_elim (λ z. rw z.0 nans) (λ z. rw (z.0, h, unlike_not s t) (infs (unlike s t))) (eq_split m 0)
mul_opposed f _ _ (fin t n d) (fins s s' m e o) = go o
  where
    go : opposite s s' m
        → Opposed (round f (unlike s t) (m * up e * (n * up d)) (down e * down d)) (round f (unlike s' t) (m * up e * (n * up d)) (down e * down d))
    go (inl h) =
        let z : m * up e * (n * up d) ≡ 0 = rw h (ap (λ i. i * (n * up d)) (zero-mul (up e)) ∙ zero-mul (n * up d)) in
        rw z (round_zero f (down e * down d) (mul-pos (down_pos e) (down_pos d)) (unlike s t) (unlike s' t))
    go (inr h) = rw (h, unlike_not s t) (round_opposed f (m * up e * (n * up d)) (down e * down d) (unlike s t))

-- ---- units and their millimetres

pub mm_opposed : (z : ℤ) → Opposed (mm_unit z) (mm_unit (neg_ℤ z))
unfolding mm_unit
mm_opposed (pos zero) = round_zero binary64 units_in_millimetre (lit< tt) false false
mm_opposed (pos (suc n)) = round_opposed binary64 (suc n) units_in_millimetre false
mm_opposed (negsuc n) = round_opposed binary64 (suc n) units_in_millimetre true

signed_not : (s : Bool) (k : ℕ) → signed (not s) k ≡ neg_ℤ (signed s k)
signed_not true k = sym (neg_ℤ-neg_ℤ (pos k))
signed_not false k = refl

pub units_opposed : (x y : Float) → Opposed x y → units_of y ≡ neg_ℤ (units_of x)
unfolding units_of
units_opposed _ _ nans = refl
units_opposed _ _ (infs s) = refl
units_opposed _ _ (fins s t m e (inr h)) =
    rw (h, signed_not s (m * up e * units_in_millimetre)) (rounding_is_symmetric (signed s (m * up e * units_in_millimetre)) (down e) (down_pos e))
units_opposed _ _ (fins s t m e (inl h)) =
    let z : m * up e * units_in_millimetre ≡ 0 = rw h (ap (λ i. i * units_in_millimetre) (zero-mul (up e))) in
    rw z (rw (none s, none t) (rounding_is_symmetric (pos 0) (down e) (down_pos e)))
  where
    none : (s : Bool) → signed s 0 ≡ pos 0
    none true = refl
    none false = refl

-- ---- the range is the same on both sides

eqb_sym : (a b : ℕ) → eqb a b ≡ eqb b a
eqb_sym a b = ⊎_elim (λ e. rw (e.0, eq-eqb b a (sym e.1))) (λ e. rw (e.0, ne_eqb b a (λ h. e.1 (sym h)))) (eq_split a b)

tests_below : (a b : ℕ) → 0 < a → ((ltb b a || (eqb a b && true)) && (ltb 0 (b + a) || (eqb b a && eqb b 0))) ≡ (ltb b a || eqb b a)
tests_below a b p = rw (lt-ltb 0 (b + a) (omega arith), eqb_sym a b) (go (ltb b a) (eqb b a))
  where
    go : (x y : Bool) → ((x || (y && true)) && true) ≡ (x || y)
    go true y = refl
    go false true = refl
    go false false = refl

tests_above : (a b : ℕ) → 0 < a → ((ltb 0 (a + b) || (eqb a b && eqb a 0)) && (ltb b a || (eqb b a && true))) ≡ (ltb b a || eqb b a)
tests_above a b p = rw (lt-ltb 0 (a + b) (omega arith)) (go (ltb b a) (eqb b a))
  where
    go : (x y : Bool) → (x || (y && true)) ≡ (x || y)
    go true y = refl
    go false true = refl
    go false false = refl

either : (s : Bool) (m : ℕ) (e : ℤ) → inside (fin s m e) ≡ (ltb (m * up e * 1) (1024 * down e) || eqb (m * up e * 1) (1024 * down e))
unfolding inside le lt eq
either true m e = tests_below (1024 * down e) (m * up e * 1) (mul-pos (lit< tt) (down_pos e))
either false m e = tests_above (1024 * down e) (m * up e * 1) (mul-pos (lit< tt) (down_pos e))

pub inside_opposed : (x y : Float) → Opposed x y → inside y ≡ inside x
unfolding inside le lt eq
inside_opposed _ _ nans = refl
inside_opposed _ _ (infs true) = refl
inside_opposed _ _ (infs false) = refl
inside_opposed _ _ (fins s t m e h) = either t m e ∙ sym (either s m e)
