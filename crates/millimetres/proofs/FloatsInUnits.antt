-- What the bits of a float say of its value in units. Assumes nothing.
use mathlib.Core.Path.{◌≡◌, refl, sym, ap, ◌∙◌, subst}
use mathlib.Core.Bool.{Bool, true, false, not, ◌&&◌, ◌||◌, cond}
use Prim.Native.Nat.{ℕ, zero, suc, ◌+◌, ◌-◌, ◌*◌, ◌/◌, ◌%◌, ◌^◌, ◌≤◌, ◌<◌, zero-le}
use native.Mathlib.Nat.{le_trans, le_of_eq, lt_of_lt_of_le, lt_of_le_of_lt, lt_irrefl, mul-pos, mul-mod_left, lt_of_not-le, mul-le-mul, mul-one, one-mul, mul_assoc, mul_comm, mul_right_comm, mul-le-mul_right, mul-lt-mul_of_pos_right, le_of_mul-le-mul_right, mul-div_cancel}
use native.Mathlib.Omega.{arith}
use lib.Dec.{T, ltb, leb, eqb, ltb→lt, eqb→eq, lit<, lit≤}
use lib.Pow.{pow-add, pow_pos, pow_mono, shl_lt, shl_exact}
use lib.IntN.{ℤ, pos, negsuc, nat_abs}
use lib.Signed.{non_neg}
use lib.Ieee.{Float, nan, inf, fin, binary64, up, down, odd, le, lt, eq, of_fields, of_bits, of_int, is_nan, mul, round, unlike}
use lib.Ieee.Fits.{down_pos, and_l, and_r}
use lib.Ieee.Exact.{HasValue, odd_sign, round_exact}
use lib.Ieee.Back.{round_whole}
use lib.Ieee.Scale.{round_same}
use Rattle.mesh.specs.Limits.{most_units}
use Rattle.steps.specs.Round.{rounded}
use Rattle.units.specs.Coordinate.{InRange}
use Rattle.millimetres.specs.Millimetres.{signed, mm_unit, inside, units_of}
use Rattle.millimetres.proofs.Signed.{rounded_same, rounded_tiny, rounded_whole, rounded_in}

-- ---- a value in -1024.0 to 1024.0

le_of_test : (a b : ℕ) (same r : Bool) → (T same → a ≡ b) → T (ltb a b || (same && r)) → a ≤ b
le_of_test a b same r g t = go (ltb a b) same (ltb→lt a b) g t
  where
    go : (x y : Bool) → (T x → a < b) → (T y → a ≡ b) → T (x || (y && r)) → a ≤ b
    go true y f g t = let h : a < b = f tt in omega arith
    go false true f g t = le_of_eq (g tt)
    go false false f g t = absurd t

below_top : (m : ℕ) (e : ℤ) → T (le (fin false m e) (fin false 1 (pos 10))) → m * up e ≤ 1024 * down e
unfolding le lt eq
below_top m e t =
    subst (λ (x : ℕ). x ≤ 1024 * down e) (mul-one (m * up e))
    (le_of_test (m * up e * 1) (1024 * down e) (eqb (m * up e * 1) (1024 * down e)) true (eqb→eq (m * up e * 1) (1024 * down e)) t)

above_bottom : (m : ℕ) (e : ℤ) → T (le (fin true 1 (pos 10)) (fin true m e)) → m * up e ≤ 1024 * down e
unfolding le lt eq
above_bottom m e t = subst (λ (x : ℕ). x ≤ 1024 * down e) (mul-one (m * up e))
    (le_of_test (m * up e * 1) (1024 * down e) (eqb (1024 * down e) (m * up e * 1)) true (λ q. sym (eqb→eq (1024 * down e) (m * up e * 1) q)) t)

inside_mag : (s : Bool) (m : ℕ) (e : ℤ) → T (inside (fin s m e)) → m * up e ≤ 1024 * down e
unfolding inside
inside_mag false m e t = below_top m e (and_r (le (fin true 1 (pos 10)) (fin false m e)) (le (fin false m e) (fin false 1 (pos 10))) t)
inside_mag true m e t = above_bottom m e (and_l (le (fin true 1 (pos 10)) (fin true m e)) (le (fin true m e) (fin false 1 (pos 10))) t)

-- it is finite
not_inside : (b s : Bool) → T (inside (cond b (inf s) nan)) → ⊥
unfolding inside le lt eq
not_inside true true t = t
not_inside true false t = t
not_inside false s t = t

pub inside_no_nan : (x : Float) → T (inside x) → T (not (is_nan x))
unfolding inside le lt eq is_nan
inside_no_nan nan t = t
inside_no_nan (inf s) t = tt
inside_no_nan (fin s m e) t = tt

magnitude : (x : Float) (s : Bool) (a c : ℕ) → T (inside x) → HasValue x s a c → a ≤ 1024 * c
magnitude nan s a c t v = absurd v
magnitude (inf b) s a c t v = absurd v
magnitude (fin b m e) s a c t v =
    le_of_mul-le-mul_right
    (le_trans (le_of_eq (sym v.1)) (le_trans (mul-le-mul_right c (inside_mag b m e t)) (le_of_eq (mul_right_comm 1024 (down e) c))))
    (down_pos e)

-- its units, by any fraction that it equals
units_val : (x : Float) (s : Bool) (a c : ℕ) → 0 < c → HasValue x s a c → units_of x ≡ rounded (signed s (a * 1024)) c
unfolding units_of
units_val nan s a c p v = absurd v
units_val (inf b) s a c p v = absurd v
units_val (fin b m e) s a c p v =
    ap (λ (t : Bool). rounded (signed t (m * up e * 1024)) (down e)) v.0
    ∙ rounded_same s (m * up e * 1024) (down e) (a * 1024) c (down_pos e) p
    (mul_right_comm (m * up e) 1024 c ∙ ap (λ (x : ℕ). x * 1024) v.1 ∙ mul_right_comm a (down e) 1024)

-- ---- the fields of a bit pattern

-- the digit that a pattern leaves out, which is also one step of the exponent's field
abbrev pub leading : ℕ
leading = 2 ^ 52

-- by how much a signed number of digits is moved up before it is rounded
abbrev pub lift : ℕ
lift = 2 ^ 54

-- the sign, the exponent's field and the other digits
abbrev pub negative : ℕ → Bool
negative b = leb (2 ^ 63) b

abbrev pub field : ℕ → ℕ
field b = b % 2 ^ 63 / leading

abbrev pub digits : ℕ → ℕ
digits b = b % leading

-- the magnitude in units of 2 ^ -1074
abbrev pub weight : ℕ → ℕ → ℕ
weight zero t = t * 2 ^ 0
weight (suc k) t = (leading + t) * 2 ^ k

fields_val : (s : Bool) (x t : ℕ) → T (inside (of_fields binary64 s x t)) → HasValue (of_fields binary64 s x t) s (weight x t) (2 ^ 1074)
unfolding of_fields
fields_val s zero t h = odd_sign 53 s t 0 1074
fields_val s (suc k) t h = go (eqb (suc k) 2047) h
  where
    go : (b : Bool) → T (inside (cond b (cond (eqb t 0) (inf s) nan) (odd 53 s (leading + t) k 1074)))
        → HasValue (cond b (cond (eqb t 0) (inf s) nan) (odd 53 s (leading + t) k 1074)) s ((leading + t) * 2 ^ k) (2 ^ 1074)
    go true h = absurd (not_inside (eqb t 0) s h)
    go false h = odd_sign 53 s (leading + t) k 1074

-- below 2 ^ -11: less than half a unit
tiny : (x t : ℕ) → t < leading → x < 1012 → 2 * (weight x t * 1024) < 2 ^ 1074
tiny zero t h k = lt_of_lt_of_le (let g : 2 * (t * 1 * 1024) < 2 ^ 63 = omega arith in g) (lit≤ tt)
tiny (suc j) t h k =
    let l : (leading + t) * 2 ^ j < 2 ^ 1063 = lt_of_lt_of_le (shl_lt 53 j (let g : leading + t < 2 ^ 53 = omega arith in g)) (pow_mono (let g : 53 + j ≤ 1063 = omega arith in g)) in
    let e : 2 * (((leading + t) * 2 ^ j) * 1024) ≡ ((leading + t) * 2 ^ j) * 2048 = omega arith in
    lt_of_le_of_lt (le_of_eq e) (mul-lt-mul_of_pos_right l (lit< tt))

-- from there to 1024: the leading digit and the others, over a power of two
pub record Over (s : Bool) (x t : ℕ) : Type 0 where
  pub upto : x ≤ 1033
  pub units : rounded (signed s (weight x t * 1024)) (2 ^ 1074) ≡ rounded (signed s (leading + t)) (2 ^ (1065 - x))
  pub small : leading + t ≤ most_units * 2 ^ (1065 - x)

over : (s : Bool) (x t : ℕ) → 1012 ≤ x → weight x t ≤ 1024 * 2 ^ 1074 → Over s x t
over s zero t h k = absurd (let g : ⊥ = omega arith in g)
over s (suc j) t h k =
    let d = leading + t in
    let u : j ≤ 1032 = below j k in
    let w = 1064 - j in
    let ew : 1065 - suc j ≡ w = omega arith in
    let p : 2 ^ j * 2 ^ w ≡ 2 ^ 1064 = sym (pow-add 2 j w) ∙ ap (λ (i : ℕ). 2 ^ i) (let g : j + w ≡ 1064 = omega arith in g) in
    record {
      upto = omega arith;
      units =
          rounded_same s (d * 2 ^ j * 1024) (2 ^ 1074) d (2 ^ w) (pow_pos 1074) (pow_pos w)
          (mul_right_comm (d * 2 ^ j) 1024 (2 ^ w) ∙ ap (λ (i : ℕ). i * 1024) (mul_assoc d (2 ^ j) (2 ^ w) ∙ ap (λ (i : ℕ). d * i) p) ∙ mul_assoc d (2 ^ 1064) 1024)
          ∙ ap (λ (i : ℕ). rounded (signed s d) (2 ^ i)) (sym ew);
      small =
          subst (λ (i : ℕ). d ≤ most_units * 2 ^ i) (sym ew)
          (le_of_mul-le-mul_right
          (le_trans k (le_of_eq (sym (mul_assoc most_units (2 ^ w) (2 ^ j) ∙ ap (λ (i : ℕ). most_units * i) (mul_comm (2 ^ w) (2 ^ j) ∙ p)))))
          (pow_pos j));
    }
  where
    below : (j : ℕ) → (leading + t) * 2 ^ j ≤ 1024 * 2 ^ 1074 → j ≤ 1032
    below j k =
        let big : 2 ^ 1084 < leading * 2 ^ 1033 = lit< tt in
        let l : j < 1033 = lt_of_not-le (λ (g : 1033 ≤ j). lt_irrefl (2 ^ 1084) (lt_of_lt_of_le big (le_trans (mul-le-mul (let h : leading ≤ leading + t = omega arith in h) (pow_mono g)) k))) in
        omega arith

-- ---- the two cases of a bit pattern's exponent field
module _ (b : ℕ) (t : T (inside (of_bits binary64 b))) where
  value : HasValue (of_bits binary64 b) (negative b) (weight (field b) (digits b)) (2 ^ 1074)
  unfolding of_bits
  value = fields_val (negative b) (field b) (digits b) t

  pub tiny_units : field b < 1012 → units_of (of_bits binary64 b) ≡ pos 0
  tiny_units h =
      let s = negative b in
      let w = weight (field b) (digits b) in
      units_val (of_bits binary64 b) s w (2 ^ 1074) (pow_pos 1074) value
      ∙ rounded_tiny s (w * 1024) (2 ^ 1074) (tiny (field b) (digits b) (omega arith) h)

  pub over_is : 1012 ≤ field b → Over (negative b) (field b) (digits b)
  over_is h = over (negative b) (field b) (digits b) h (magnitude (of_bits binary64 b) (negative b) (weight (field b) (digits b)) (2 ^ 1074) t value)

  pub over_units : 1012 ≤ field b
      → units_of (of_bits binary64 b) ≡ rounded (signed (negative b) (leading + digits b)) (2 ^ (1065 - field b))
  over_units h =
      units_val (of_bits binary64 b) (negative b) (weight (field b) (digits b)) (2 ^ 1074) (pow_pos 1074) value
      ∙ (over_is h).units

-- ---- powers of two that an `u64` holds
pub one_is : (k : ℕ) → k ≤ 53 → (1 * 2 ^ k) % 18446744073709551616 ≡ 2 ^ k
one_is k h = shl_exact 1 k 64 (lit< tt) (omega arith) ∙ one-mul (2 ^ k)

pub one_lt : (k : ℕ) → k ≤ 53 → 2 ^ k < 2305843009213693952
one_lt k h = lt_of_le_of_lt (pow_mono h) (lit< tt)

whole_pow : (k : ℕ) → k ≤ 53 → lift / 2 ^ k ≡ 2 ^ (54 - k)
whole_pow k h = ap (λ (n : ℕ). n / 2 ^ k) (ap (λ (i : ℕ). 2 ^ i) (let g : 54 ≡ 54 - k + k = omega arith in g) ∙ pow-add 2 (54 - k) k) ∙ mul-div_cancel (2 ^ (54 - k)) (pow_pos k)

pub whole_is : (k : ℕ) → k ≤ 53 → lift / 2 ^ k * 2 ^ k ≡ lift
whole_is k h = ap (λ (n : ℕ). n * 2 ^ k) (whole_pow k h) ∙ sym (pow-add 2 (54 - k) k) ∙ ap (λ (i : ℕ). 2 ^ i) (let g : 54 - k + k ≡ 54 = omega arith in g)

pub whole_even : (k : ℕ) → k ≤ 53 → lift / 2 ^ k % 2 ≡ 0
whole_even k h =
    ap (λ (n : ℕ). n % 2) (whole_pow k h ∙ ap (λ (i : ℕ). 2 ^ i) (let g : 54 - k ≡ 53 - k + 1 = omega arith in g) ∙ pow-add 2 (53 - k) 1) ∙ mul-mod_left (2 ^ (53 - k)) 2

pub whole_le : (k : ℕ) → 32 ≤ k → k ≤ 53 → lift / 2 ^ k ≤ 4194304
whole_le k l h = le_trans (le_of_eq (whole_pow k h)) (le_trans (pow_mono (let g : 54 - k ≤ 22 = omega arith in g)) (lit≤ tt))

-- ---- the two tests
pub inside_yes : (x : Float) → le (fin true 1 (pos 10)) x ≡ true → le x (fin false 1 (pos 10)) ≡ true → inside x ≡ true
unfolding inside
inside_yes x p q = ap (λ (b : Bool). b && le x (fin false 1 (pos 10))) p ∙ q

pub inside_low : (x : Float) → le (fin true 1 (pos 10)) x ≡ false → inside x ≡ false
unfolding inside
inside_low x p = ap (λ (b : Bool). b && le x (fin false 1 (pos 10))) p

pub inside_high : (x : Float) → le x (fin false 1 (pos 10)) ≡ false → inside x ≡ false
unfolding inside
inside_high x p = go (le (fin true 1 (pos 10)) x) (le x (fin false 1 (pos 10))) p
  where
    go : (a b : Bool) → b ≡ false → a && b ≡ false
    go true b q = q
    go false b q = refl

-- ---- a value in range has units in range
pub units_in : (x : Float) → T (inside x) → InRange (units_of x)
unfolding units_of
units_in nan t = zero-le
units_in (inf s) t = zero-le
units_in (fin s m e) t = rounded_in s (m * up e * 1024) (down e) (down_pos e) (omega (arith, inside_mag s m e t))

-- ---- units as millimetres: exact, and back
whole_val : (z : ℤ) → InRange z → HasValue (of_int binary64 z) (not (non_neg z)) (nat_abs z) 1
unfolding of_int
whole_val (pos n) h = round_whole binary64 false n (le_trans h (lit≤ tt))
whole_val (negsuc n) h = round_whole binary64 true (suc n) (le_trans h (lit≤ tt))

like : (s : Bool) → unlike s false ≡ s
like true = refl
like false = refl

scaled_down : (x : Float) (s : Bool) (n : ℕ) → HasValue x s n 1 → mul binary64 x (fin false 1 (negsuc 9)) ≡ round binary64 s n 1024
unfolding mul
scaled_down nan s n v = absurd v
scaled_down (inf b) s n v = absurd v
scaled_down (fin b m e) s n v =
    ap (λ (t : Bool). round binary64 t (m * up e * 1) (down e * 1024)) (like b ∙ v.0)
    ∙ round_same binary64 s (m * up e * 1) (down e * 1024) n 1024 (mul-pos (down_pos e) (lit< tt)) (lit< tt)
    (ap (λ (i : ℕ). i * 1024) v.1 ∙ mul_assoc n (down e) 1024)

pub mm_mul : (z : ℤ) → InRange z → mul binary64 (of_int binary64 z) (fin false 1 (negsuc 9)) ≡ mm_unit z
unfolding mm_unit
mm_mul z h = scaled_down (of_int binary64 z) (not (non_neg z)) (nat_abs z) (whole_val z h)

-- no loss: the float is z / 1024 exactly
pub mm_exact : (z : ℤ) → InRange z → HasValue (mm_unit z) (not (non_neg z)) (nat_abs z) 1024
unfolding mm_unit
mm_exact z h =
    round_exact binary64 (not (non_neg z)) (nat_abs z) 1024 (nat_abs z) 1064 (lit< tt) (lt_of_le_of_lt h (lit< tt))
    (lt_of_le_of_lt (mul-le-mul_right (2 ^ 1064) h) (lit< tt))
    (let p : 2 ^ 1074 ≡ 2 ^ 1064 * 1024 = refl in ap (λ (i : ℕ). nat_abs z * i) p ∙ sym (mul_assoc (nat_abs z) (2 ^ 1064) 1024))

signed_abs : (z : ℤ) → signed (not (non_neg z)) (nat_abs z) ≡ z
signed_abs (pos n) = refl
signed_abs (negsuc n) = refl

-- so it comes back as the same units
pub mm_back : (z : ℤ) → InRange z → units_of (mm_unit z) ≡ z
mm_back z h =
    units_val (mm_unit z) (not (non_neg z)) (nat_abs z) 1024 (lit< tt) (mm_exact z h)
    ∙ rounded_same (not (non_neg z)) (nat_abs z * 1024) 1024 (nat_abs z) 1 (lit< tt) (lit< tt) (mul-one (nat_abs z * 1024))
    ∙ rounded_whole (not (non_neg z)) (nat_abs z)
    ∙ signed_abs z
