-- What stands where in refreshed positions: each vertex of each refreshed level, and what lies behind them. Assumes nothing.
use Prim.Native.Nat.{ℕ, zero, suc, ◌+◌, ◌*◌, ◌≤◌, ◌<◌}
use mathlib.Core.Path.{◌≡◌, refl, ap, ap₂, ◌∙◌}
use mathlib.Core.Bool.{Bool}
use mathlib.Core.List.{List, [], ◌∷◌}
use native.Mathlib.Omega.{arith}
use lib.IntN.{ℤ, pos}
use lib.ListN.{length, get_or}
use Rattle.mesh.specs.Search.{sum}
use Rattle.steps.specs.Mask.{refreshed}
use Rattle.loop_step.specs.Refine.{level}
use Rattle.rings.specs.Table.{Lent, rows, coordinate_at, point_rows}
use Rattle.rings.proofs.LevelRows as L
use Rattle.move_refresh.specs.Stack.{refreshed_at, refreshed_positions}

module _ (n : ℕ) (t : Lent) (named : ℕ → Bool) (ps : List ℤ) where
  abbrev size : ℕ → ℕ
  size k = (level (rows n t) k).count

  abbrev point : ℕ → ℕ → ℕ → ℤ
  point axis k x = refreshed_at n t named ps axis k x

  -- the point of vertex x of level k + 1
  abbrev pub row : ℕ → ℕ → List ℤ
  row k x = point 0 (suc k) x ∷ point 1 (suc k) x ∷ point 2 (suc k) x ∷ []

  axis_of : (axis : ℕ) → axis < 3 → (k x : ℕ) → get_or (row k x) axis (pos 0) ≡ point axis (suc k) x
  axis_of zero h k x = refl
  axis_of (suc zero) h k x = refl
  axis_of (suc (suc zero)) h k x = refl
  axis_of (suc (suc (suc i))) h k x = absurd (omega arith)

  module _ (k : ℕ) (room : sum size (suc k) * 3 ≤ length ps) where
    pub positions_are : refreshed_positions n t named ps k ≡ L.stacked 3 row (λ j x. refl) size ps k room
    unfolding refreshed_positions point_rows level rows
    positions_are = refl

    pub positions_long : length (refreshed_positions n t named ps k) ≡ length ps
    positions_long = ap length positions_are ∙ L.stacked_length 3 row (λ j x. refl) size ps k room

    -- vertex x of level j, for j up to k
    pub position_at : (axis : ℕ) → axis < 3 → (j x : ℕ) → j ≤ k → x < size j → coordinate_at (refreshed_positions n t named ps k) axis (sum size j + x) ≡ point axis j x
    unfolding coordinate_at refreshed_at refreshed level rows
    position_at axis b zero x h g =
        let e : (0 + x) * 3 + axis ≡ x * 3 + axis = omega arith in
        ap₂ (λ (table : List ℤ) (p : ℕ). get_or table p (pos 0)) positions_are e ∙ L.stacked_before 3 row (λ j x. refl) size ps k room (pos 0) (x * 3 + axis) (omega arith)
    position_at axis b (suc j) x h g =
        let e : (sum size (suc j) + x) * 3 + axis ≡ sum size (suc j) * 3 + (x * 3 + axis) = omega arith in
        ap₂ (λ (table : List ℤ) (p : ℕ). get_or table p (pos 0)) positions_are e
        ∙ L.stacked_at 3 row (λ j x. refl) size ps k room (pos 0) j x axis h g b
        ∙ axis_of axis b j x

    -- behind level k
    pub position_behind : (p : ℕ) → sum size (suc k) * 3 ≤ p → get_or (refreshed_positions n t named ps k) p (pos 0) ≡ get_or ps p (pos 0)
    position_behind p h = ap (λ (table : List ℤ). get_or table p (pos 0)) positions_are ∙ L.stacked_behind 3 row (λ j x. refl) size ps k room (pos 0) p h
