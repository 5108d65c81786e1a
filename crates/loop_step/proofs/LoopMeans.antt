-- Loop's masks are means.
-- Assumes nothing.
use mathlib.Core.Path.{refl}
use mathlib.Core.List.{List}
use mathlib.Core.Logic.{⊎_elim}
use Prim.Native.Nat.{ℕ, ◌<◌}
use native.Mathlib.Omega.{arith}
use lib.Dec.{lit<}
use lib.ListN.{length}
use Rattle.mesh.specs.Mesh.{Mesh, Sound}
use Rattle.mesh.proofs.Lists.{eq_split, lt_split}
use Rattle.steps.proofs.Means.{total_ring, nonneg_ring, IsMean}
use Rattle.loop_step.specs.Loop.{vertex_mask, loop_mask}

vertex_mean : (v : ℕ) (ring : List ℕ) → 0 < length ring → IsMean (vertex_mask v ring)
vertex_mean v ring h =
    let n : ℕ = length ring in
    record {
      positive = ⊎_elim (λ e. rw e.0 (lit< tt)) (λ e. rw e.0 (omega arith)) (eq_split n 3);
      mean = ⊎_elim (λ e. rw e.0 (omega (arith, total_ring 3 ring, e.1))) (λ e. rw e.0 (omega (arith, total_ring 3 ring))) (eq_split n 3);
      nonneg = (refl, nonneg_ring 3 ring);
    }

pub loop_mean : (M : Mesh) → Sound M → (x : ℕ) → IsMean (loop_mask M x)
unfolding loop_mask
loop_mean M S x =
    ⊎_elim
    (λ l. rw l.0 (vertex_mean x (M.ring x) (omega (arith, S.three x l.1))))
    (λ l. rw l.0 (record { positive = lit< tt; mean = refl; nonneg = (refl, (refl, (refl, (refl, tt)))) }))
    (lt_split x M.count)
