-- A move and its mirror image (document 02, order 3): from a point and from its mirror image, a placing or shift with its x negated, or a
-- stretch as it is, leads to mirrored points in units, or is refused alike.
-- Assumes nothing.
use Rattle.std.proofs.Common.{Ok, Err}
use mathlib.Core.Path.{◌≡◌, refl}
use mathlib.Core.Bool.{Bool, true, false, cond, ◌&&◌}
use lib.IntN.{neg_ℤ}
use lib.Ieee.{Float, nan, inf, fin, binary64, add, mul, neg}
use Rattle.units.specs.declared.Point.{Point}
use Rattle.millimetres.specs.Millimetres.{inside, units_of, mm_unit, mm_of}
use Rattle.millimetres.specs.Move.{fit, changed_by, settled_at, moved_to}
use Rattle.mirror.specs.MirroredMove.{mirrored_change, mirrored_point, mirrored_moved}
use Rattle.millimetres.specs.declared.Change.{Change}
use Rattle.millimetres.specs.declared.Change.TheVariants.{Place, Shift, Stretch}
use Rattle.millimetres.specs.declared.Unmoved.TheVariants.{NotFinite, OutOfReach}
use Rattle.mirror.proofs.Opposed.{Opposed, neg_opposed, add_opposed, mul_opposed, mm_opposed, units_opposed, inside_opposed}

-- points in millimetres with opposed x and the same y and z
settled_mirrored : (x x' y z : Float) → Opposed x x'
    → settled_at (record { x = x'; y = y; z = z }) ≡ mirrored_moved (settled_at (record { x = x; y = y; z = z }))
unfolding settled_at
settled_mirrored x x' y z o = rw (inside_opposed x x' o, units_opposed x x' o) (go (inside x && inside y && inside z))
  where
    go : (b : Bool)
        → cond b (Ok (record { x = neg_ℤ (units_of x); y = units_of y; z = units_of z })) (Err OutOfReach)
        ≡ mirrored_moved (cond b (Ok (record { x = units_of x; y = units_of y; z = units_of z })) (Err OutOfReach))
    go true = refl
    go false = refl

-- where a change leads from a point and from the one opposite
changed_mirrored : (p : Point) (c : Change)
    → settled_at (changed_by (mm_of (mirrored_point p)) (mirrored_change c)) ≡ mirrored_moved (settled_at (changed_by (mm_of p) c))
changed_mirrored p (Place x y z) = settled_mirrored x (neg x) y z (neg_opposed x)
changed_mirrored p (Shift x y z) =
    settled_mirrored _ _ (add binary64 (mm_unit p.y) y) (add binary64 (mm_unit p.z) z)
    (add_opposed binary64 (mm_unit p.x) (mm_unit (neg_ℤ p.x)) x (neg x) (mm_opposed p.x) (neg_opposed x))
changed_mirrored p (Stretch x y z) =
    settled_mirrored _ _ (mul binary64 (mm_unit p.y) y) (mul binary64 (mm_unit p.z) z)
    (mul_opposed binary64 (mm_unit p.x) (mm_unit (neg_ℤ p.x)) x (mm_opposed p.x))

-- its numbers are finite alike, as signs are nothing to that
fit_mirrored : (c : Change) → fit (mirrored_change c) ≡ fit c
unfolding fit neg
fit_mirrored (Place nan y z) = refl
fit_mirrored (Place (inf s) y z) = refl
fit_mirrored (Place (fin s m e) y z) = refl
fit_mirrored (Shift nan y z) = refl
fit_mirrored (Shift (inf s) y z) = refl
fit_mirrored (Shift (fin s m e) y z) = refl
fit_mirrored (Stretch nan y z) = refl
fit_mirrored (Stretch (inf s) y z) = refl
fit_mirrored (Stretch (fin s m e) y z) = refl

pub mirrored_move_lem : (p : Point) (c : Change) → moved_to (mm_of (mirrored_point p)) (mirrored_change c) ≡ mirrored_moved (moved_to (mm_of p) c)
unfolding moved_to
mirrored_move_lem p c = rw (fit_mirrored c, changed_mirrored p c) (go (fit c))
  where
    go : (b : Bool)
        → cond b (mirrored_moved (settled_at (changed_by (mm_of p) c))) (Err NotFinite) ≡ mirrored_moved (cond b (settled_at (changed_by (mm_of p) c)) (Err NotFinite))
    go true = refl
    go false = refl
