-- The parts of a move, by cases. Assumes nothing.
use mathlib.Core.Path.{◌≡◌, refl, ap, ◌∙◌}
use mathlib.Core.Bool.{Bool, true, false, ◌&&◌, cond}
use Prim.Native.Nat.{ℕ}
use native.Mathlib.Omega.{arith}
use Rattle.std.proofs.Common.{Some, None, Ok, Err}
use lib.IntN.{ℤ}
use lib.Ieee.{Float, nan, inf, fin}
use Rattle.std.specs.Float.{float_is_finite}
use lib.Ieee.Scale.{finite}
use Rattle.millimetres.specs.declared.Mm.{Mm}
use Rattle.units.specs.declared.Point.{Point}
use Rattle.millimetres.specs.declared.Change.{Change}
use Rattle.millimetres.specs.declared.Unmoved.TheVariants.{NotFinite, OutOfReach}
use Rattle.millimetres.specs.Millimetres.{inside, units_of, units_answer}
use Rattle.millimetres.specs.Move.{fit, changed_by, settled_at, moved_to}

pub all_three : (a b c : Bool) → a ≡ true → b ≡ true → a && b && c ≡ c
all_three a b c p q = ap (λ (x : Bool). x && b && c) p ∙ ap (λ (x : Bool). x && c) q

pub was_units : (x : Float) (z : ℤ) → units_answer x ≡ Some z → (inside x ≡ true) × (z ≡ units_of x)
unfolding units_answer
was_units x z p = go (inside x) p
  where
    go : (b : Bool) → cond b (Some (units_of x)) None ≡ Some z → (b ≡ true) × (z ≡ units_of x)
    go true p = (refl, cc)
    go false p = let o : ◌≡◌ {A = ℕ} 0 1 = cc in absurd (let z : ⊥ = omega arith in z)

pub settled_by : (m : Mm) (b : Bool) → inside m.x && inside m.y && inside m.z ≡ b
    → settled_at m ≡ cond b (Ok (record { x = units_of m.x; y = units_of m.y; z = units_of m.z })) (Err OutOfReach)
unfolding settled_at
settled_by m b e = ap (λ (t : Bool). cond t (Ok (record { x = units_of m.x; y = units_of m.y; z = units_of m.z })) (Err OutOfReach)) e

pub point_is : (a b c a' b' c' : ℤ) → a ≡ a' → b ≡ b' → c ≡ c' → ◌≡◌ {A = Point} (record { x = a; y = b; z = c }) (record { x = a'; y = b'; z = c' })
point_is a b c a' b' c' p q r = λ i. record { x = p i; y = q i; z = r i }

pub mm_is : (a b c a' b' c' : Float) → a ≡ a' → b ≡ b' → c ≡ c' → ◌≡◌ {A = Mm} (record { x = a; y = b; z = c }) (record { x = a'; y = b'; z = c' })
mm_is a b c a' b' c' p q r = λ i. record { x = p i; y = q i; z = r i }

pub moved_by : (p : Mm) (c : Change) (b : Bool) → fit c ≡ b → moved_to p c ≡ cond b (settled_at (changed_by p c)) (Err NotFinite)
unfolding moved_to
moved_by p c b e = ap (λ (t : Bool). cond t (settled_at (changed_by p c)) (Err NotFinite)) e

-- what `is_finite` answers
pub finite_is : (x : Float) → float_is_finite x ≡ finite x
unfolding float_is_finite
finite_is nan = refl
finite_is (inf s) = refl
finite_is (fin s m e) = refl
