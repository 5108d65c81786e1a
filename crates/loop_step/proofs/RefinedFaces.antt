-- Refined, a sound mesh has four times as many faces, V - E + F is kept, and its sizes are those that `loop_sizes` gives.
-- Assumes nothing.
use mathlib.Core.Path.{◌≡◌}
use Prim.Native.Nat.{◌+◌, ◌*◌}
use native.Mathlib.Omega.{arith}
use Rattle.mesh.specs.Mesh.{Mesh, Sound, edges, faces}
use Rattle.mesh.proofs.Faces.{three_faces}
use Rattle.steps.specs.Sizes.{sizes_of}
use Rattle.loop_step.specs.Refine.{refine}
use Rattle.loop_step.specs.Loop.{loop_sizes}
use Rattle.loop_step.proofs.Refined.{refine_edges, refine_count, refine_sound}

pub refine_faces : (M : Mesh) (S : Sound M) → faces (refine M) ≡ 4 * faces M
refine_faces M S = omega (arith, three_faces M S, three_faces (refine M) (refine_sound M S), refine_edges M S)

-- V - E + F stays, written without a difference
pub euler : (M : Mesh) (S : Sound M) → ((refine M).count + faces (refine M)) + edges M ≡ (M.count + faces M) + edges (refine M)
euler M S = omega (arith, three_faces M S, refine_faces M S, refine_edges M S, refine_count M S)

-- V + E, 2E + 3F, 4F
pub refine_sizes : (M : Mesh) (S : Sound M) → sizes_of (refine M).count (refine M) ≡ loop_sizes (sizes_of M.count M)
refine_sizes M S =
    let v = refine_count M S in
    let e : edges (refine M) ≡ 2 * edges M + 3 * faces M = omega (arith, refine_edges M S, three_faces M S) in
    let f = refine_faces M S in
    rw (e, f, v)
