-- `point_of` meets its contract. Assumes nothing.
use mathlib.Core.Path.{◌≡◌}
use mathlib.Core.List.{List}
use Prim.Native.Nat.{ℕ, ◌+◌, ◌*◌}
use native.Mathlib.Nat.{add-zero}
use lib.IntN.{ℤ, pos}
use lib.ListN.{get_or}
use mir.Syntax.{w32}
use mir.Val.{to_z, of_z, SFits}
use mir.ValLaws.{to_z-of_z}
use Rattle.rings.specs.Table.{coordinate_at, point_at}
use Rattle.rings.proofs.table.point_of.Goals as goal

-- a number as it is read
abbrev got : List ℤ → ℕ → ℤ
got ps a = to_z w32 (of_z w32 (get_or ps a (pos 0)))

-- a point as it is read
read : (ps : List ℤ) (v : ℕ) → SFits w32 (get_or ps (v * 3) (pos 0)) → SFits w32 (get_or ps (v * 3 + 1) (pos 0)) → SFits w32 (get_or ps (v * 3 + 2) (pos 0))
    → record { x = got ps (v * 3); y = got ps (v * 3 + 1); z = got ps (v * 3 + 2) } ≡ point_at ps v
unfolding point_at coordinate_at
read ps v a b c = rw (to_z-of_z w32 _ a, to_z-of_z w32 _ b, to_z-of_z w32 _ c, add-zero)

pub returns : goal.returns
returns c = read _ _ (record { sfits = c.result-1.given }) (record { sfits = c.result-2-1.given }) (record { sfits = c.result-3-1.given })
