-- Loop's masks (document 01, "Refinement, one level" and "Moves"): which points each of them is made of, that each is a mean of points of the level below,
-- and which points are touched by that.
-- Assumes nothing.
use mathlib.Core.Path.{◌≡◌, refl, ◌∙◌}
use mathlib.Core.Bool.{Bool, true, false, ◌||◌}
use mathlib.Core.List.{List, map}
use Prim.Native.Nat.{ℕ, suc, ◌≤◌, ◌<◌}
use borrow.Author.Tests.{lt-ltb, le-ltb}
use Rattle.mesh.specs.Ring.{◌∈◌, next, prev}
use Rattle.mesh.specs.Mesh.{Mesh, Sound}
use Rattle.steps.specs.Mask.{Mask, touched}
use Rattle.steps.proofs.Means.{IsMean}
use Rattle.loop_step.specs.Refine.{mid, low_end, high_end, level}
use Rattle.loop_step.specs.Loop.{vertex_mask, edge_mask, loop_mask, loop}
use Rattle.loop_step.proofs.Mids as E
use Rattle.loop_step.proofs.LoopMeans.{loop_mean}
use Rattle.loop_step.proofs.Levels.{level_sound, touched_new}

-- the points that a mask is made of
abbrev pub sources : Mask → List ℕ
sources μ = map (λ t. t.source) μ.terms

module _ (M : Mesh) where
  -- an old vertex is made of itself and its ring
  pub old_mask : (v : ℕ) → v < M.count → loop_mask M v ≡ vertex_mask v (M.ring v)
  unfolding loop_mask
  old_mask v h = rw (lt-ltb v M.count h)

  -- a new one of the ends of its edge and the two vertices beside it
  pub new_mask : (x : ℕ) → M.count ≤ x
      → let p = low_end M x in
      let q = high_end M x in
      loop_mask M x ≡ edge_mask p q (next (M.ring p) q) (prev (M.ring p) q)
  unfolding loop_mask
  new_mask x h = rw (le-ltb x M.count h)

module _ (M : Mesh) (S : Sound M) where
  -- the same, said of the edge
  pub edge_mask_lem : (p q : ℕ) → p < q → p < M.count → q ∈ M.ring p → loop_mask M (mid M p q) ≡ edge_mask p q (next (M.ring p) q) (prev (M.ring p) q)
  edge_mask_lem p q l h m =
      let e = E.ends_of M S.proper S.mutual' p q l h m in
      new_mask M (mid M p q) (E.mid_range M S.proper S.mutual' p q h m).0 ∙ rw (e.0, e.1)

  -- weights are not negative and make up the divisor, which is positive
  pub masks_are_means : (x : ℕ) → IsMean (loop_mask M x)
  masks_are_means = loop_mean M S

-- ---- touched

drop_false : (a b c d : Bool) → (a || (b || (c || (d || false)))) ≡ (a || (b || (c || d)))
drop_false true b c d = refl
drop_false false true c d = refl
drop_false false false true d = refl
drop_false false false false true = refl
drop_false false false false false = refl

module _ (M : Mesh) (S : Sound M) (named : ℕ → Bool) (k : ℕ) where
  -- the new vertex of edge p, q is touched if p, q, a or b is
  pub touched_edge : (p q : ℕ) → p < q → p < (level M k).count → q ∈ (level M k).ring p
      → let t = touched (loop M) named k in
      touched (loop M) named (suc k) (mid (level M k) p q) ≡ (t p || (t q || (t (next ((level M k).ring p) q) || t (prev ((level M k).ring p) q))))
  touched_edge p q l h m =
      let N : Mesh = level M k in
      let T : Sound N = level_sound M S k in
      let e = E.ends_of N T.proper T.mutual' p q l h m in
      let t : ℕ → Bool = touched (loop M) named k in
      touched_new M named k (mid N p q) (E.mid_range N T.proper T.mutual' p q h m).0 ∙ rw (e.0, e.1) (drop_false (t p) (t q) (t (next (N.ring p) q)) (t (prev (N.ring p) q)))
