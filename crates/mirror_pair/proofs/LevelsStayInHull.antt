-- No coordinate of any level passes the smallest or the largest of the control mesh on that axis (document 02, order 3): after a refinement,
-- and after any lists of moves, when the control mesh is the moved one.
-- Assumes nothing.
use mathlib.Core.Path.{◌≡◌, sym, subst}
use mathlib.Core.List.{List}
use Prim.Native.Nat.{ℕ, ◌<◌}
use lib.IntN.{ℤ}
use Rattle.steps.proofs.Hull.{Within}
use Rattle.loop_step.proofs.PointsStayInHull.{points_stay_in_hull}
use Rattle.rings.specs.Table.{lent, Lent, rows, coordinate_at}
use Rattle.stack_judge.specs.StackVerdict.{stack_verdict}
use Rattle.stack_refine.specs.Refinement.{refine_valences, refine_rings, refine_positions}
use Rattle.stack_strange.specs.Expected.{whole}
use Rattle.move_lists.specs.Fresh.{ListCall, after_calls}
use Rattle.mirror_pair.specs.Pair.{TrueStack}
use Rattle.mirror_pair.proofs.TrueStacks.{refinement_leaves_a_true_stack, lists_keep_the_stack_true, by_levels}
use Rattle.std.specs.Prelude.{Ok}

-- control vertices low and high have the smallest and the largest coordinate on the axis
pub record Extremes (n : ℕ) (ps : List ℤ) (axis low high : ℕ) : Type 0 where
  pub low_there : low < n
  pub high_there : high < n
  pub between : (v : ℕ) → v < n → Within (coordinate_at ps axis low) (coordinate_at ps axis high) (coordinate_at ps axis v)

module _ (n levels : ℕ) (t : Lent) (ps : List ℤ) (K : TrueStack n levels t ps) (axis : ℕ) (b : axis < 3) where
  -- bounds of the control coordinates hold on every level
  levels_stay_in_hull : (lo hi : ℤ) → ((v : ℕ) → v < n → Within lo hi (coordinate_at ps axis v))
      → (j : ℕ) → j < whole n levels t ps → Within lo hi (coordinate_at ps axis j)
  unfolding rows
  levels_stay_in_hull lo hi within =
      by_levels n levels t ps K (λ j. Within lo hi (coordinate_at ps axis j))
      (λ k x l h.
      subst (Within lo hi) (sym (K.fresh.fresh axis b k x l h))
      (points_stay_in_hull (rows n t) K.sound (coordinate_at ps axis) lo hi within k x h))

  -- the theorem, on a stack as refinement leaves it and lists keep it
  pub no_coordinate_passes_the_extremes : (low high : ℕ) → Extremes n ps axis low high → (j : ℕ) → j < whole n levels t ps
      → Within (coordinate_at ps axis low) (coordinate_at ps axis high) (coordinate_at ps axis j)
  no_coordinate_passes_the_extremes low high e = levels_stay_in_hull (coordinate_at ps axis low) (coordinate_at ps axis high) e.between

-- so it is after an accepted refinement and any lists of moves
module _ (n levels : ℕ) (t : Lent) (ps : List ℤ) (accepted : stack_verdict n levels t ps ≡ (Ok tt)) (cs : List ListCall) where
  abbrev t₁ : Lent
  t₁ = lent (refine_valences n levels t ps) (refine_rings n levels t ps)

  abbrev ps₁ : List ℤ
  ps₁ = after_calls n levels t₁ cs (refine_positions n levels t ps)

  pub no_coordinate_ever_passes_the_extremes : (axis : ℕ) → axis < 3 → (low high : ℕ) → Extremes n ps₁ axis low high
      → (j : ℕ) → j < whole n levels t₁ ps₁ → Within (coordinate_at ps₁ axis low) (coordinate_at ps₁ axis high) (coordinate_at ps₁ axis j)
  no_coordinate_ever_passes_the_extremes axis b =
      let K = refinement_leaves_a_true_stack n levels t ps (sym accepted) in
      no_coordinate_passes_the_extremes n levels t₁ ps₁ (lists_keep_the_stack_true n levels t₁ cs (refine_positions n levels t ps) K) axis b
