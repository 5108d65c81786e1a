-- To be believed.
-- All levels refreshed (document 01, "Moves"): what a refresh relies on, and the map and the positions after it.
-- Assumes nothing.
use Rattle.std.specs.Prelude.{ℕ, suc, ◌+◌, ◌*◌, ◌≤◌, ◌<◌, ◌≡◌, Bool, false, List, ℤ, length, drop}
use Rattle.mesh.specs.Limits.{most_valence}
use Rattle.mesh.specs.Mesh.{edges}
use Rattle.steps.specs.Mask.{touched, refreshed}
use Rattle.steps.specs.Sizes.{sizes_of}
use Rattle.loop_step.specs.Refine.{level}
use Rattle.loop_step.specs.Loop.{loop}
use Rattle.units.specs.Coordinate.{InRange}
use Rattle.rings.specs.Table.{Lent, lent, valence_at, gather, put, rows, coordinate_at, point_rows}
use Rattle.stack_judge.specs.Stack.{level_start, stack_count}
use Rattle.stack_judge.specs.Accepts.{AcceptsStack}
use Rattle.move_map.specs.Map.{marked}

-- the stack is accepted, e is its E, every level's rows are as refinement gives them, and every coordinate is in range
pub record StackReady (n e levels : ℕ) (t : Lent) (ps : List ℤ) : Type 0 where
  pub accepted : AcceptsStack n levels t ps
  pub counted : e ≡ edges (rows n t)
  pub most : (j : ℕ) → j < stack_count (sizes_of n (rows n t)) levels → valence_at t j ≤ most_valence
  pub refined : (k : ℕ) → k ≤ levels
      → let base = level_start (sizes_of n (rows n t)) k in
      rows (level (rows n t) k).count (lent (drop base t.valences) (drop (base * most_valence) t.rings)) ≡ level (rows n t) k
  pub near : (j : ℕ) → j < stack_count (sizes_of n (rows n t)) levels → (axis : ℕ) → axis < 3 → InRange (coordinate_at ps axis j)

-- the map has room for the stack, and no vertex above level 0 is marked
pub record MapReady (n levels : ℕ) (t : Lent) (map : List ℕ) : Type 0 where
  pub room : stack_count (sizes_of n (rows n t)) levels ≤ length map * 32
  pub unmarked : (j : ℕ) → n ≤ j → j < stack_count (sizes_of n (rows n t)) levels → marked map j ≡ false

-- from a set that has the named ones of level 0: after it, the touched ones of every level are there, and behind the stack all is as it was
pub record TouchedMarked (n levels : ℕ) (t : Lent) (before after : ℕ → Bool) : Type 0 where
  pub at : (k x : ℕ) → k ≤ levels → x < (level (rows n t) k).count → after (level_start (sizes_of n (rows n t)) k + x) ≡ touched (loop (rows n t)) before k x
  pub behind : (j : ℕ) → stack_count (sizes_of n (rows n t)) levels ≤ j → after j ≡ before j

module _ (n : ℕ) (t : Lent) (named : ℕ → Bool) (ps : List ℤ) where
  -- one coordinate of vertex x of level k, refreshed from what the stack holds
  unfoldable pub refreshed_at : ℕ → ℕ → ℕ → ℤ
  refreshed_at axis k x = refreshed (loop (rows n t)) named (λ j y. coordinate_at ps axis (level_start (sizes_of n (rows n t)) j + y)) (coordinate_at ps axis) k x

  -- the positions with levels 1 to L refreshed
  unfoldable pub refreshed_positions : ℕ → List ℤ
  refreshed_positions levels = put ps (n * 3) (gather (λ k. point_rows (λ axis x. refreshed_at axis (suc k) x) (level (rows n t) (suc k)).count) levels)
