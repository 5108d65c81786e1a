-- For a caller of the refresh: how a stack is ready, and the outcome said of any set that names the same control vertices and of what the upper levels held before
-- the control points were moved. Assumes nothing.
use Prim.Native.Nat.{ℕ, suc, ◌+◌, ◌*◌, ◌<◌}
use mathlib.Core.Path.{◌≡◌, refl, ap, ◌∙◌}
use mathlib.Core.Bool.{Bool}
use mathlib.Core.List.{List}
use native.Mathlib.Omega.{arith}
use lib.IntN.{ℤ}
use lib.ListN.{length}
use Rattle.steps.specs.Mask.{touched, refreshed}
use Rattle.steps.specs.Sizes.{sizes_of}
use Rattle.steps.proofs.Refresh.{refreshed_same}
use Rattle.steps.proofs.TouchedPoints.{touched_same}
use Rattle.loop_step.specs.Refine.{level}
use Rattle.loop_step.specs.Loop.{loop}
use Rattle.loop_step.proofs.Levels.{loop_grounded}
use Rattle.units.specs.Coordinate.{InRange}
use Rattle.rings.specs.Table.{Lent, put, gather, rows, coordinate_at, point_rows}
use Rattle.rings.proofs.Tables.{gather_same}
use Rattle.stack_judge.specs.Stack.{level_start, stack_count, level_of, number_in}
use Rattle.stack_judge.specs.Accepts.{AcceptsStack}
use Rattle.move_refresh.specs.Stack.{TouchedMarked, refreshed_at, refreshed_positions}
use Rattle.move_touched.proofs.Renewed.{three}
use Rattle.move_refresh.proofs.TouchedMarks.{vertex_of_lem, mark_of}

-- ---- a stack that is ready

module _ {n levels : ℕ} {t : Lent} {ps : List ℤ} (a : AcceptsStack n levels t ps) where
  -- an accepted stack with other positions, of which the control points are in range, is accepted
  pub accepted_moved : (ps' : List ℤ) → length ps' ≡ length ps → ((v : ℕ) → v < n → (axis : ℕ) → axis < 3 → InRange (coordinate_at ps' axis v)) → AcceptsStack n levels t ps'
  accepted_moved ps' e near =
      let c = a.control in
      record {
        low = a.low;
        high = a.high;
        control = record { low = c.low; high = c.high; room = c.room; points = rw e c.points; most = c.most; sound = c.sound; near = near };
        fits = a.fits;
        room = a.room;
        points = rw e a.points;
      }

-- ---- the outcome said of other sets and other holdings

module _ {n levels : ℕ} {t : Lent} {ps : List ℤ} (a : AcceptsStack n levels t ps) {before : ℕ → Bool} (named : ℕ → Bool) (same : (v : ℕ) → v < n → before v ≡ named v) where
  -- the positions, with what was held above level 0 given
  pub positions_by : (held : ℕ → ℕ → ℕ → ℤ)
      → ((axis k x : ℕ) → k < levels → x < (level (rows n t) (suc k)).count → coordinate_at ps axis (level_start (sizes_of n (rows n t)) (suc k) + x) ≡ held axis (suc k) x)
      → refreshed_positions n t before ps levels
      ≡ put ps (n * 3)
      (gather (λ k. point_rows (λ axis. refreshed (loop (rows n t)) named (held axis) (coordinate_at ps axis) (suc k)) (level (rows n t) (suc k)).count) levels)
  unfolding refreshed_positions refreshed_at point_rows loop level rows
  positions_by held was =
      ap (put ps (n * 3)) (gather_same _ _ levels (λ k l. gather_same _ _ (level (rows n t) (suc k)).count (λ x h.
      three (again 0 k l x h) (again 1 k l x h) (again 2 k l x h))))
    where
      again : (axis k : ℕ) → k < levels → (x : ℕ) → x < (level (rows n t) (suc k)).count
          → refreshed (loop (rows n t)) before (λ j y. coordinate_at ps axis (level_start (sizes_of n (rows n t)) j + y)) (coordinate_at ps axis) (suc k) x
          ≡ refreshed (loop (rows n t)) named (held axis) (coordinate_at ps axis) (suc k) x
      again axis k l x h =
          refreshed_same (loop (rows n t)) (loop_grounded (rows n t) a.control.sound) before named same (coordinate_at ps axis) (coordinate_at ps axis) (λ v l. refl)
          (λ j y. coordinate_at ps axis (level_start (sizes_of n (rows n t)) j + y)) (held axis) (suc k) (λ j y m g. was axis j y (omega arith) g) x h

  -- the mark of stack vertex j
  pub mark_by : {after : ℕ → Bool} → TouchedMarked n levels t before after → (j : ℕ) → j < stack_count (sizes_of n (rows n t)) levels
      → after j ≡ touched (loop (rows n t)) named (level_of (sizes_of n (rows n t)) levels j) (number_in (sizes_of n (rows n t)) levels j)
  unfolding loop level rows
  mark_by z j h = mark_of a z j h ∙ touched_same (loop (rows n t)) (loop_grounded (rows n t) a.control.sound) before named same _ _ (vertex_of_lem a j h).1.0
