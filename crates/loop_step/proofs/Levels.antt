-- Loop's step: every level of a sound mesh is sound, its masks name points of the level below, and so partial refreshing is whole refreshing.
-- Assumes nothing.
use mathlib.Core.Path.{◌≡◌}
use mathlib.Core.Bool.{Bool, false, ◌||◌}
use mathlib.Core.List.{List, [], ◌∷◌, map}
use mathlib.Core.Logic.{⊎_elim}
use Prim.Native.Nat.{ℕ, zero, suc, ◌+◌, ◌≤◌, ◌<◌}
use native.Mathlib.Omega.{arith}
use borrow.Author.Tests.{le-ltb}
use Rattle.mesh.specs.Ring.{◌∈◌, next, prev}
use Rattle.mesh.specs.Mesh.{Mesh, Sound, edges}
use Rattle.mesh.proofs.Lists.{lt_split, here, there}
use Rattle.mesh.proofs.Rings.{next_in, prev_in}
use Rattle.steps.specs.Mask.{SourcesBelow, Grounded, touched, term}
use Rattle.loop_step.specs.Refine.{low_end, high_end, level}
use Rattle.loop_step.specs.Loop.{loop_mask, loop}
use Rattle.loop_step.proofs.Mids as E
use Rattle.loop_step.proofs.Refined.{refine_sound, refine_count}

pub level_sound : (M : Mesh) → Sound M → (k : ℕ) → Sound (level M k)
unfolding level
level_sound M S zero = S
level_sound M S (suc k) = refine_sound (level M k) (level_sound M S k)

sources_ring : (n : ℕ) (l : List ℕ) → ((u : ℕ) → u ∈ l → u < n) → SourcesBelow n (map (term 3) l)
sources_ring n [] h = tt
sources_ring n (a ∷ l) h = (h a (here a l), sources_ring n l (λ u m. h u (there u a l m)))

mask_grounded : (M : Mesh) → Sound M → (x : ℕ) → x < M.count + edges M → SourcesBelow M.count (loop_mask M x).terms
unfolding loop_mask
mask_grounded M S x h =
    ⊎_elim
    (λ l. rw l.0 (l.1, sources_ring M.count (M.ring x) (S.proper x l.1).known))
    (λ l.
    let p : ℕ = low_end M x in
    let q : ℕ = high_end M x in
    let e = E.ends M S.proper S.mutual' x l.1 h in
    let g : p < M.count = omega arith in
    rw l.0
    (g, (e.1, ((S.proper p g).known (next (M.ring p) q) (next_in (M.ring p) q e.2), ((S.proper p g).known (prev (M.ring p) q) (prev_in (M.ring p) q e.2), tt)))))
    (lt_split x M.count)

pub loop_grounded : (M : Mesh) → Sound M → Grounded (loop M)
unfolding loop level
loop_grounded M S k x h = mask_grounded (level M k) (level_sound M S k) x (rw (refine_count (level M k) (level_sound M S k)) at h)

-- the touched rule of new vertices as document 01 has it
pub touched_new : (M : Mesh) (named : ℕ → Bool) (k x : ℕ) → (level M k).count ≤ x
    → let N = level M k in
    let t = touched (loop M) named k in
    let p = low_end N x in
    let q = high_end N x in
    touched (loop M) named (suc k) x ≡ (t p || (t q || (t (next (N.ring p) q) || (t (prev (N.ring p) q) || false))))
unfolding touched loop loop_mask
touched_new M named k x h = rw (le-ltb x (level M k).count h)
