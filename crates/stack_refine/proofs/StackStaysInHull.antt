-- No coordinate of an accepted stack leaves the range, and none passes the least or the largest control coordinate of its axis. Assumes nothing.
use mathlib.Core.Path.{◌≡◌, sym, subst}
use mathlib.Core.List.{List}
use Prim.Native.Nat.{ℕ, ◌+◌, ◌≤◌, ◌<◌}
use lib.IntN.{ℤ}
use Rattle.mesh.specs.Limits.{most_units}
use Rattle.steps.specs.Sizes.{sizes_of}
use Rattle.steps.proofs.Hull.{Within}
use Rattle.loop_step.specs.Refine.{level}
use Rattle.loop_step.proofs.PointsStayInHull.{points_stay_in_hull, range_is_kept}
use Rattle.units.specs.Coordinate.{InRange}
use Rattle.rings.specs.Table.{Lent, rows, coordinate_at}
use Rattle.stack_judge.specs.Stack.{level_start}
use Rattle.stack_judge.specs.Accepts.{AcceptsStack}
use Rattle.stack_judge.specs.StackVerdict.{stack_verdict}
use Rattle.stack_judge.proofs.AcceptedStack.{stack_only}
use Rattle.stack_refine.specs.Refinement.{refine_positions}
use Rattle.stack_refine.proofs.StackIsRefined.{point_is_refined}
use Rattle.std.specs.Prelude.{Ok}

module _ (n levels : ℕ) (t : Lent) (ps : List ℤ) (accepted : (Ok tt) ≡ stack_verdict n levels t ps) (axis : ℕ) (b : axis < 3) where
  a : AcceptsStack n levels t ps
  a = stack_only n levels t ps (sym accepted)

  -- bounds of the control coordinates hold on every level
  pub stack_stays_in_hull : (lo hi : ℤ) → ((v : ℕ) → v < n → Within lo hi (coordinate_at ps axis v))
      → (k x : ℕ) → k ≤ levels → x < (level (rows n t) k).count → Within lo hi (coordinate_at (refine_positions n levels t ps) axis (level_start (sizes_of n (rows n t)) k + x))
  unfolding rows
  stack_stays_in_hull lo hi within k x l h =
      subst (Within lo hi) (sym (point_is_refined n levels t ps accepted k x l h axis b))
      (points_stay_in_hull (rows n t) a.control.sound (coordinate_at ps axis) lo hi within k x h)

  -- so every coordinate is in the range
  pub stack_stays_in_range : (k x : ℕ) → k ≤ levels → x < (level (rows n t) k).count → InRange (coordinate_at (refine_positions n levels t ps) axis (level_start (sizes_of n (rows n t)) k + x))
  unfolding rows
  stack_stays_in_range k x l h =
      subst InRange (sym (point_is_refined n levels t ps accepted k x l h axis b))
      (range_is_kept (rows n t) a.control.sound (coordinate_at ps axis) most_units (λ v g. a.control.near v g axis b) k x h)
