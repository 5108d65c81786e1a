-- Refinement leaves no range of coordinates: where every control coordinate lies from lo to hi, so does every coordinate of every level
-- (document 01, "Refinement, one level"; each mask is a mean, and rounding a mean keeps whole bounds).
-- Assumes nothing.
use Prim.Native.Nat.{ℕ, ◌≤◌, ◌<◌}
use lib.IntN.{ℤ, pos, sub_ℕ, nat_abs}
use Rattle.mesh.specs.Mesh.{Mesh, Sound}
use Rattle.steps.specs.Mask.{refined}
use Rattle.steps.proofs.Hull.{Within, levels_within, near_within, within_near}
use Rattle.loop_step.specs.Refine.{level}
use Rattle.loop_step.specs.Loop.{loop}
use Rattle.loop_step.proofs.Levels.{level_sound, loop_grounded}
use Rattle.loop_step.proofs.LoopMeans.{loop_mean}

module _ (M : Mesh) (S : Sound M) (control : ℕ → ℤ) where
  -- the theorem, on one coordinate
  pub points_stay_in_hull : (lo hi : ℤ) → ((v : ℕ) → v < M.count → Within lo hi (control v)) → (k x : ℕ) → x < (level M k).count → Within lo hi (refined (loop M) control k x)
  unfolding loop level
  points_stay_in_hull lo hi within = levels_within (loop M) (loop_grounded M S) (λ k x h. loop_mean (level M k) (level_sound M S k) x) lo hi control within

  -- so a range around zero is kept
  pub range_is_kept : (most : ℕ) → ((v : ℕ) → v < M.count → nat_abs (control v) ≤ most) → (k x : ℕ) → x < (level M k).count → nat_abs (refined (loop M) control k x) ≤ most
  range_is_kept most near k x h =
      within_near most (refined (loop M) control k x)
      (points_stay_in_hull (sub_ℕ 0 most) (pos most) (λ v g. near_within most (control v) (near v g)) k x h)
