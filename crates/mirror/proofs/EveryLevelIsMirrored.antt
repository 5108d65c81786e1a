-- The right shoe is the left shoe (document 02, order 3). Negate x and reverse each ring of a sound control mesh: every level of its refinement has
-- the mirrored points under the same numbers, and the reversed rings, up to where they begin; and the same points are touched.
-- Assumes nothing.
use mathlib.Core.Path.{◌≡◌, refl, ap, fun_ext}
use mathlib.Core.Bool.{Bool}
use Prim.Native.Nat.{ℕ, zero, suc, ◌<◌}
use lib.IntN.{ℤ, neg_ℤ}
use Rattle.mesh.specs.Mesh.{Mesh, Sound, edges, faces}
use Rattle.steps.specs.Mask.{touched, touched_count, refined}
use Rattle.loop_step.specs.Refine.{level}
use Rattle.loop_step.specs.Loop.{loop_mask, loop}
use Rattle.mirror.specs.Mirror.{Mirrored}
use Rattle.mirror.specs.Step.{Step, loop_step, level_by, masks_by, Founded, KeepsMirror}
use Rattle.mirror.proofs.MirroredMeshIsSound as sound
use Rattle.mirror.proofs.LoopMirrors.{loop_founded, loop_keeps_the_mirror}
use Rattle.mirror.proofs.AnyStepsKeepTheMirror as any

-- ---- Loop's step at every level

abbrev always : ℕ → Step
always k = loop_step

founded : (k : ℕ) → Founded (always k)
founded k = loop_founded

keeps : (k : ℕ) → KeepsMirror (always k)
keeps k = loop_keeps_the_mirror

levels_by_loop : (M : Mesh) (k : ℕ) → level_by always M k ≡ level M k
unfolding level_by level loop_step
levels_by_loop M zero = refl
levels_by_loop M (suc k) = ap (λ N. loop_step.next N) (levels_by_loop M k)

masks_by_loop : (M : Mesh) → masks_by always M ≡ loop M
unfolding masks_by loop loop_step
masks_by_loop M = ap (λ (l : ℕ → Mesh). record { size = λ k. (l k).count; mask = λ k x. loop_mask (l k) x }) (fun_ext (levels_by_loop M))

module _ (M N : Mesh) (S : Sound M) (R : Mirrored M N) where
  -- the reversed rings, up to where they begin, and with them the same V
  pub every_level_is_mirrored : (k : ℕ) → Mirrored (level M k) (level N k)
  every_level_is_mirrored k =
      let r = any.levels_are_mirrored always founded keeps M N S R k in
      rw (levels_by_loop M k, levels_by_loop N k) at r

  here : (k x : ℕ) → x < (level M k).count → x < (level_by always M k).count
  here k x h = rw (levels_by_loop M k) h

  -- the same E and F
  pub same_edges_at : (k : ℕ) → edges (level N k) ≡ edges (level M k)
  same_edges_at k = sound.same_edges (level M k) (level N k) (every_level_is_mirrored k)

  pub same_faces_at : (k : ℕ) → faces (level N k) ≡ faces (level M k)
  same_faces_at k = sound.same_faces (level M k) (level N k) (every_level_is_mirrored k)

  -- a coordinate that is the same at the control points is the same at every level
  pub y_and_z_stay : (control : ℕ → ℤ) (k x : ℕ) → x < (level M k).count → refined (loop N) control k x ≡ refined (loop M) control k x
  y_and_z_stay control k x h =
      let e = any.points_stay always founded keeps M N S R control k x (here k x h) in
      rw (masks_by_loop M, masks_by_loop N) at e

  -- one that is negated there is negated at every level
  pub x_is_negated : (control : ℕ → ℤ) (k x : ℕ) → x < (level M k).count
      → refined (loop N) (λ v. neg_ℤ (control v)) k x ≡ neg_ℤ (refined (loop M) control k x)
  x_is_negated control k x h =
      let e = any.points_are_mirrored always founded keeps M N S R control k x (here k x h) in
      rw (masks_by_loop M, masks_by_loop N) at e

  -- the same points are touched, and as many
  pub touched_alike : (named : ℕ → Bool) (k x : ℕ) → x < (level M k).count → touched (loop N) named k x ≡ touched (loop M) named k x
  touched_alike named k x h =
      let e = any.same_points_are_touched always founded keeps M N S R named k x (here k x h) in
      rw (masks_by_loop M, masks_by_loop N) at e

  pub counted_alike : (named : ℕ → Bool) (n : ℕ) → touched_count (loop N) named n ≡ touched_count (loop M) named n
  counted_alike named n =
      let e = any.as_many_are_touched always founded keeps M N S R named n in
      rw (masks_by_loop M, masks_by_loop N) at e
