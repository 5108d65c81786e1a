-- The mirrored pair over any steps of refinement (document 02, order 3): where each step keeps the mirror by its two facts (`KeepsMirror`),
-- every level of two mirrored meshes is mirrored, with the mirrored points under the same numbers, and the same points are touched.
-- Assumes nothing.
use mathlib.Core.Path.{◌≡◌, refl, sym, ap, ap₂, ◌∙◌}
use mathlib.Core.Bool.{Bool}
use mathlib.Core.List.{List, [], ◌∷◌}
use Prim.Native.Nat.{ℕ, zero, suc, ◌<◌}
use lib.IntN.{ℤ, pos, negsuc, neg_ℤ, ◌+ℤ◌, ◌*ℤ◌, neg_ℤ-+ℤ, neg_ℤ-neg_ℤ, *ℤ-zero, *ℤ-negsuc}
use Rattle.mesh.specs.Search.{bit, sum}
use Rattle.mesh.specs.Mesh.{Mesh, Sound}
use Rattle.mesh.proofs.Lists.{sum_same}
use Rattle.steps.specs.Round.{rounded}
use Rattle.steps.specs.Mask.{Term, Mask, weighted, by_mask, Grounded, touched, touched_count, refined}
use Rattle.steps.proofs.RoundsToNearest.{rounding_is_symmetric}
use Rattle.steps.proofs.Refresh.{by_mask_same}
use Rattle.steps.proofs.TouchedPoints.{any_same}
use Rattle.steps.proofs.ShuffledTerms.{weighted_shuffled, any_shuffled}
use Rattle.mirror.specs.Mirror.{Mirrored}
use Rattle.mirror.specs.Step.{Step, level_by, masks_by, Founded, SameMask, KeepsMirror}

-- ---- a mask on the same points, and on negated ones

by_mask_shuffled : (μ ν : Mask) → SameMask μ ν → (at : ℕ → ℤ) → by_mask ν at ≡ by_mask μ at
unfolding by_mask
by_mask_shuffled μ ν s at = ap₂ rounded (sym (weighted_shuffled at s.terms)) s.divisor

times_negated : (m k : ℤ) → m *ℤ neg_ℤ k ≡ neg_ℤ (m *ℤ k)
times_negated m (pos zero) = *ℤ-zero m ∙ sym (ap neg_ℤ (*ℤ-zero m))
times_negated m (pos (suc n)) = *ℤ-negsuc m n
times_negated m (negsuc n) = sym (neg_ℤ-neg_ℤ (m *ℤ pos (suc n))) ∙ sym (ap neg_ℤ (*ℤ-negsuc m n))

weighted_negated : (ts : List Term) (at : ℕ → ℤ) → weighted ts (λ v. neg_ℤ (at v)) ≡ neg_ℤ (weighted ts at)
weighted_negated [] at = refl
weighted_negated (t ∷ ts) at =
    ap₂ (λ a b. a +ℤ b) (times_negated t.weight (at t.source)) (weighted_negated ts at)
    ∙ sym (neg_ℤ-+ℤ (t.weight *ℤ at t.source) (weighted ts at))

by_mask_negated : (μ : Mask) → 0 < μ.divisor → (at : ℕ → ℤ) → by_mask μ (λ v. neg_ℤ (at v)) ≡ neg_ℤ (by_mask μ at)
unfolding by_mask
by_mask_negated μ d at =
    ap (λ z. rounded z μ.divisor) (weighted_negated μ.terms at) ∙ rounding_is_symmetric (weighted μ.terms at) μ.divisor d

-- ---- any steps

module _ (steps : ℕ → Step) (founded : (k : ℕ) → Founded (steps k)) (M : Mesh) (S : Sound M) where
  levels_sound : (k : ℕ) → Sound (level_by steps M k)
  unfolding level_by
  levels_sound zero = S
  levels_sound (suc k) = (founded k).sound (level_by steps M k) (levels_sound k)

  grounded : Grounded (masks_by steps M)
  unfolding masks_by level_by
  grounded k = (founded k).below (level_by steps M k) (levels_sound k)

  -- negated control points are refined to negated points
  negated_refines : (control : ℕ → ℤ) (k x : ℕ) → x < (level_by steps M k).count
      → refined (masks_by steps M) (λ v. neg_ℤ (control v)) k x ≡ neg_ℤ (refined (masks_by steps M) control k x)
  unfolding refined masks_by level_by
  negated_refines control zero v h = refl
  negated_refines control (suc k) x h =
      let below : (ℕ → ℤ) → ℕ → ℤ = λ c. refined (masks_by steps M) c k in
      let d = (founded k).divides (level_by steps M k) (levels_sound k) x h in
      by_mask_same (masks_by steps M) grounded k x h (below (λ v. neg_ℤ (control v))) (λ v. neg_ℤ (below control v)) (negated_refines control k)
      ∙ by_mask_negated ((steps k).mask (level_by steps M k) x) d (below control)

module _ (steps : ℕ → Step) (founded : (k : ℕ) → Founded (steps k)) (keeps : (k : ℕ) → KeepsMirror (steps k))
    (M N : Mesh) (S : Sound M) (R : Mirrored M N) where
  -- the reversed rings at every level, up to where they begin, and with them the same V
  pub levels_are_mirrored : (k : ℕ) → Mirrored (level_by steps M k) (level_by steps N k)
  unfolding level_by
  levels_are_mirrored zero = R
  levels_are_mirrored (suc k) = (keeps k).rings (level_by steps M k) (level_by steps N k) (levels_sound steps founded M S k) (levels_are_mirrored k)

  same : (k x : ℕ) → x < (level_by steps M (suc k)).count → SameMask ((steps k).mask (level_by steps M k) x) ((steps k).mask (level_by steps N k) x)
  unfolding level_by
  same k = (keeps k).masks (level_by steps M k) (level_by steps N k) (levels_sound steps founded M S k) (levels_are_mirrored k)

  -- a coordinate that is the same at the control points is the same at every level: so y and z
  pub points_stay : (control : ℕ → ℤ) (k x : ℕ) → x < (level_by steps M k).count
      → refined (masks_by steps N) control k x ≡ refined (masks_by steps M) control k x
  unfolding refined masks_by
  points_stay control zero v h = refl
  points_stay control (suc k) x h =
      let here : ℕ → ℤ = refined (masks_by steps M) control k in
      let there : ℕ → ℤ = refined (masks_by steps N) control k in
      by_mask_shuffled ((steps k).mask (level_by steps M k) x) ((steps k).mask (level_by steps N k) x) (same k x h) there
      ∙ by_mask_same (masks_by steps M) (grounded steps founded M S) k x h there here (points_stay control k)

  -- one that is negated at the control points is negated at every level: so x
  pub points_are_mirrored : (control : ℕ → ℤ) (k x : ℕ) → x < (level_by steps M k).count
      → refined (masks_by steps N) (λ v. neg_ℤ (control v)) k x ≡ neg_ℤ (refined (masks_by steps M) control k x)
  points_are_mirrored control k x h = points_stay (λ v. neg_ℤ (control v)) k x h ∙ negated_refines steps founded M S control k x h

  -- the same points are touched, and as many
  pub same_points_are_touched : (named : ℕ → Bool) (k x : ℕ) → x < (level_by steps M k).count
      → touched (masks_by steps N) named k x ≡ touched (masks_by steps M) named k x
  unfolding touched masks_by
  same_points_are_touched named zero v h = refl
  same_points_are_touched named (suc k) x h =
      let here : ℕ → Bool = touched (masks_by steps M) named k in
      let there : ℕ → Bool = touched (masks_by steps N) named k in
      let ts : List Term = ((steps k).mask (level_by steps M k) x).terms in
      sym (any_shuffled there (same k x h).terms)
      ∙ any_same (level_by steps M k).count there here (same_points_are_touched named k) ts (grounded steps founded M S k x h)

  pub as_many_are_touched : (named : ℕ → Bool) (n : ℕ) → touched_count (masks_by steps N) named n ≡ touched_count (masks_by steps M) named n
  unfolding touched_count masks_by
  as_many_are_touched named n =
      sum_same _ _ n
      (λ k h. ap (sum (λ x. bit (touched (masks_by steps N) named k x))) (levels_are_mirrored k).count
      ∙ sum_same _ _ (level_by steps M k).count (λ x g. ap bit (same_points_are_touched named k x g)))
