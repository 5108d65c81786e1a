-- `point_length` meets its contract. Assumes nothing.
use native.Mathlib.Omega.{arith}
use Prim.Native.Nat.{ℕ, ◌+◌, ◌*◌}
use mathlib.Core.Path.{◌≡◌, sym, ap}
use mathlib.Core.List.{List}
use native.Mathlib.Nat.{add-zero}
use lib.IntN.{ℤ, pos}
use lib.ListN.{length, get_or}
use Rattle.rings.specs.Table.{coordinate_at}
use Rattle.numerals.specs.Numerals.{signed}
use Rattle.off_length.specs.Length.{point_length}
use Rattle.off_length.proofs.point_length.Goals as goal

point_is : {x y z : ℕ} (ps : List ℤ) (v : ℕ)
    → x ≡ length (signed (get_or ps (v * 3) (pos 0)) 0)
    → y ≡ length (signed (get_or ps (v * 3 + 1) (pos 0)) 0)
    → z ≡ length (signed (get_or ps (v * 3 + 2) (pos 0)) 0)
    → x + y + z ≡ point_length ps v
unfolding point_length coordinate_at
point_is ps v e f g = omega (arith, e, f, g, ap (λ (i : ℕ). length (signed (get_or ps i (pos 0)) 0)) (sym (add-zero (v * 3))))

pub returns-clause-value : goal.returns-clause-value
returns-clause-value c = point_is _ _ c.coordinate_length.ensures.value c.coordinate_length-2.ensures.value c.coordinate_length-3.ensures.value
