-- Units become millimetres and units again without loss: a point that is placed at its own millimetres stays (`placed_at_itself`),
-- and so does one that is shifted by 0 (`shifted_by_zero`) or stretched by 1 (`stretched_by_one`).
-- Assumes nothing.
use mathlib.Core.Path.{◌≡◌, refl, sym, ap, ◌∙◌}
use mathlib.Core.Bool.{Bool, true, false, not, ◌&&◌, ◌||◌, cond, false≢true}
use Prim.Native.Nat.{ℕ, zero, suc, ◌+◌, ◌-◌, ◌*◌, ◌≤◌, ◌<◌, zero-le}
use native.Mathlib.Nat.{le_trans, le_of_eq, mul-pos, mul-one, mul_right_comm, mul-le-mul_right, le_of_mul-le-mul_right, zero-mul}
use native.Mathlib.Omega.{arith}
use borrow.Author.Tests.{lt-ltb, le-ltb, ltb-false, eq-eqb}
use Rattle.std.proofs.Common.{Ok}
use lib.Dec.{ltb, eqb, lit<}
use lib.IntN.{ℤ, pos, negsuc, nat_abs}
use lib.Signed.{non_neg}
use lib.Ieee.{Float, nan, inf, fin, binary64, up, down, le, lt, eq, add, mul, sum, round}
use lib.Ieee.Fits.{down_pos}
use lib.Ieee.Exact.{HasValue}
use lib.Ieee.Scale.{finite, round_same}
use Rattle.mesh.specs.Limits.{low_millimetres, high_millimetres, units_in_millimetre}
use Rattle.millimetres.specs.declared.Mm.{Mm}
use Rattle.units.specs.declared.Point.{Point}
use Rattle.millimetres.specs.declared.Change.{Change}
use Rattle.millimetres.specs.declared.Change.TheVariants.{Place, Shift, Stretch}
use Rattle.units.specs.Coordinate.{InRange}
use Rattle.millimetres.specs.Millimetres.{inside, mm_unit, mm_of}
use Rattle.millimetres.specs.Move.{fit, changed_by, settled_at, moved_to}
use Rattle.millimetres.proofs.FloatsInUnits.{mm_exact, mm_back}
use Rattle.millimetres.proofs.MoveCases.{all_three, settled_by, moved_by, point_is, mm_is}

-- ---- a coordinate in millimetres lies in -1024.0 to 1024.0

-- the two halves of a comparison, less and equal
at_most : (a b : ℕ) (same : Bool) → (a ≡ b → same ≡ true) → a ≤ b → ltb a b || (same && true) ≡ true
at_most a b same f h = go (ltb a b) (ltb-false a b)
  where
    go : (t : Bool) → (t ≡ false → b ≤ a) → t || (same && true) ≡ true
    go true g = refl
    go false g = let k : b ≤ a = g refl in ap (λ (t : Bool). t && true) (f (omega arith))

first : (a b : Bool) → a ≡ true → a || b ≡ true
first a b p = ap (λ (t : Bool). t || b) p

both : (a b : Bool) → a ≡ true → b ≡ true → a && b ≡ true
both a b p q = ap (λ (t : Bool). t && b) p ∙ q

some : (e : ℤ) (m : ℕ) → 0 < 1024 * down e + m
some e m = let p : 0 < down e = down_pos e in omega arith

fraction_inside : (s : Bool) (m : ℕ) (e : ℤ) → m * up e ≤ 1024 * down e → inside (fin s m e) ≡ true
unfolding inside le lt eq
fraction_inside false m e h =
    let a = m * up e * 1 in
    let b = 1024 * down e in
    both (le low_millimetres (fin false m e)) (le (fin false m e) high_millimetres)
    (first (ltb 0 (b + a)) (eqb b a && eqb b 0) (lt-ltb 0 (b + a) (some e a)))
    (at_most a b (eqb a b) (eq-eqb a b) (omega (arith, mul-one (m * up e))))
fraction_inside true m e h =
    let a = m * up e * 1 in
    let b = 1024 * down e in
    both (le low_millimetres (fin true m e)) (le (fin true m e) high_millimetres)
    (at_most a b (eqb b a) (λ (q : a ≡ b). eq-eqb b a (sym q)) (omega (arith, mul-one (m * up e))))
    (first (ltb 0 (a + b)) (eqb a b && eqb a 0) (lt-ltb 0 (a + b) (omega (arith, some e a))))

value_inside : (x : Float) (s : Bool) (a c : ℕ) → 0 < c → a ≤ 1024 * c → HasValue x s a c → inside x ≡ true
value_inside nan s a c p h v = absurd v
value_inside (inf t) s a c p h v = absurd v
value_inside (fin t m e) s a c p h v =
    fraction_inside t m e
    (le_of_mul-le-mul_right (le_trans (le_of_eq v.1) (le_trans (mul-le-mul_right (down e) h) (le_of_eq (mul_right_comm 1024 c (down e))))) p)

mm_inside : (z : ℤ) → InRange z → inside (mm_unit z) ≡ true
mm_inside z h = value_inside (mm_unit z) (not (non_neg z)) (nat_abs z) units_in_millimetre (lit< tt) h (mm_exact z h)

value_finite : (x : Float) (s : Bool) (a c : ℕ) → HasValue x s a c → finite x ≡ true
value_finite nan s a c v = absurd v
value_finite (inf t) s a c v = absurd v
value_finite (fin t m e) s a c v = refl

mm_finite : (z : ℤ) → InRange z → finite (mm_unit z) ≡ true
mm_finite z h = value_finite (mm_unit z) (not (non_neg z)) (nat_abs z) units_in_millimetre (mm_exact z h)

-- ---- the operations that change nothing

-- a value that is rounded stays what it is, however its fraction is written
same_value : (x : Bool) (s : Bool) (m : ℕ) (e : ℤ) (a c k l : ℕ) → 0 < c → HasValue (fin x m e) s a c → k ≡ m * up e → l ≡ down e
    → round binary64 x k l ≡ round binary64 s a c
same_value x s m e a c k l p v i j =
    ap (λ (t : Bool). round binary64 t k l) v.0
    ∙ round_same binary64 s k l a c (let d : 0 < down e = down_pos e in omega arith) p (ap (λ (n : ℕ). n * c) i ∙ v.1 ∙ ap (λ (n : ℕ). a * n) (sym j))

times_one : (x : Float) (s : Bool) (a c : ℕ) → 0 < c → HasValue x s a c → mul binary64 x (fin false 1 (pos 0)) ≡ round binary64 s a c
unfolding mul
times_one nan s a c p v = absurd v
times_one (inf t) s a c p v = absurd v
times_one (fin true m e) s a c p v = same_value true s m e a c (m * up e * 1) (down e * 1) p v (mul-one (m * up e)) (mul-one (down e))
times_one (fin false m e) s a c p v = same_value false s m e a c (m * up e * 1) (down e * 1) p v (mul-one (m * up e)) (mul-one (down e))

-- ±a / c with a zero of either sign added
sum_zero : (s t : Bool) (a b c : ℕ) → b ≡ 0 → (s ≡ true → 0 < a) → sum binary64 s a t b c ≡ round binary64 s a c
unfolding sum
sum_zero s t a b c e n = ap (λ (k : ℕ). sum binary64 s a t k c) e ∙ go s t n
  where
    go : (s t : Bool) → (s ≡ true → 0 < a) → sum binary64 s a t 0 c ≡ round binary64 s a c
    go true true n = ap (λ (k : ℕ). round binary64 true k c) (let i : a + 0 ≡ a = omega arith in i)
    go false false n = ap (λ (k : ℕ). round binary64 false k c) (let i : a + 0 ≡ a = omega arith in i)
    go true false n =
        ap (λ (b : Bool). cond b (round binary64 false (0 - a) c) (round binary64 (ltb 0 a) (a - 0) c)) (le-ltb a 0 zero-le)
        ∙ ap (λ (b : Bool). round binary64 b (a - 0) c) (lt-ltb 0 a (n refl))
        ∙ ap (λ (k : ℕ). round binary64 true k c) (let i : a - 0 ≡ a = omega arith in i)
    go false true n =
        ap (λ (b : Bool). cond b (round binary64 true (0 - a) c) (round binary64 false (a - 0) c)) (le-ltb a 0 zero-le)
        ∙ ap (λ (k : ℕ). round binary64 false k c) (let i : a - 0 ≡ a = omega arith in i)

positive : (m : ℕ) (e : ℤ) (a c : ℕ) → 0 < a → m * up e * c ≡ a * down e → 0 < m * up e * 1
positive m e a c h q = go (m * up e) q
  where
    go : (k : ℕ) → k * c ≡ a * down e → 0 < k * 1
    go zero q = let p : 0 < a * down e = mul-pos h (down_pos e) in absurd (let z : ⊥ = omega (arith, zero-mul c) in z)
    go (suc k) q = omega arith

-- where the value is 0 itself it is not negative
plus_zero : (x : Float) (s t : Bool) (a c : ℕ) → 0 < c → (s ≡ true → 0 < a) → HasValue x s a c → add binary64 x (fin t 0 (pos 0)) ≡ round binary64 s a c
unfolding add
plus_zero nan s t a c p n v = absurd v
plus_zero (inf b) s t a c p n v = absurd v
plus_zero (fin x m e) s t a c p n v =
    sum_zero x t (m * up e * 1) (0 * down e) (down e * 1) (zero-mul (down e)) (λ q. positive m e a c (n (sym v.0 ∙ q)) v.1)
    ∙ same_value x s m e a c (m * up e * 1) (down e * 1) p v (mul-one (m * up e)) (mul-one (down e))

negative : (z : ℤ) → not (non_neg z) ≡ true → 0 < nat_abs z
negative (pos n) e = absurd (false≢true e)
negative (negsuc n) e = omega arith

mm_plus_zero : (z : ℤ) (t : Bool) → InRange z → add binary64 (mm_unit z) (fin t 0 (pos 0)) ≡ mm_unit z
unfolding mm_unit
mm_plus_zero z t h = plus_zero (mm_unit z) (not (non_neg z)) t (nat_abs z) units_in_millimetre (lit< tt) (negative z) (mm_exact z h)

mm_times_one : (z : ℤ) → InRange z → mul binary64 (mm_unit z) (fin false 1 (pos 0)) ≡ mm_unit z
unfolding mm_unit
mm_times_one z h = times_one (mm_unit z) (not (non_neg z)) (nat_abs z) units_in_millimetre (lit< tt) (mm_exact z h)

-- ---- a move whose result is the point's own millimetres

module _ (p : Point) (hx : InRange p.x) (hy : InRange p.y) (hz : InRange p.z) where
  settled_there : settled_at (mm_of p) ≡ Ok p
  settled_there =
      settled_by (mm_of p) true
      (all_three (inside (mm_unit p.x)) (inside (mm_unit p.y)) (inside (mm_unit p.z)) (mm_inside p.x hx) (mm_inside p.y hy) ∙ mm_inside p.z hz)
      ∙ ap Ok (point_is _ _ _ _ _ _ (mm_back p.x hx) (mm_back p.y hy) (mm_back p.z hz))

  stays : (q : Mm) (c : Change) → fit c ≡ true → changed_by q c ≡ mm_of p → moved_to q c ≡ Ok p
  stays q c f e = moved_by q c true f ∙ ap settled_at e ∙ settled_there

  pub placed_at_itself : (q : Mm) → moved_to q (Place (mm_unit p.x) (mm_unit p.y) (mm_unit p.z)) ≡ Ok p
  unfolding fit
  placed_at_itself q =
      stays q (Place (mm_unit p.x) (mm_unit p.y) (mm_unit p.z))
      (all_three (finite (mm_unit p.x)) (finite (mm_unit p.y)) (finite (mm_unit p.z)) (mm_finite p.x hx) (mm_finite p.y hy) ∙ mm_finite p.z hz)
      refl

  -- the zeros may have either sign
  pub shifted_by_zero : (s t u : Bool) → moved_to (mm_of p) (Shift (fin s 0 (pos 0)) (fin t 0 (pos 0)) (fin u 0 (pos 0))) ≡ Ok p
  unfolding fit
  shifted_by_zero s t u =
      stays (mm_of p) (Shift (fin s 0 (pos 0)) (fin t 0 (pos 0)) (fin u 0 (pos 0))) refl
      (mm_is _ _ _ _ _ _ (mm_plus_zero p.x s hx) (mm_plus_zero p.y t hy) (mm_plus_zero p.z u hz))

  pub stretched_by_one : moved_to (mm_of p) (Stretch (fin false 1 (pos 0)) (fin false 1 (pos 0)) (fin false 1 (pos 0))) ≡ Ok p
  unfolding fit
  stretched_by_one =
      stays (mm_of p) (Stretch (fin false 1 (pos 0)) (fin false 1 (pos 0)) (fin false 1 (pos 0))) refl
      (mm_is _ _ _ _ _ _ (mm_times_one p.x hx) (mm_times_one p.y hy) (mm_times_one p.z hz))
