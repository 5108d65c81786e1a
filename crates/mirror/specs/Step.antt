-- To be believed.
-- A step of refinement in general, and the two facts by which a step keeps mirrored meshes mirrored (document 02, order 3).
-- Assumes nothing.
use Rattle.std.specs.Prelude.{◌≡◌, ℕ, zero, suc, ◌<◌}
use mathlib.Core.List.{Permᴰ}
use Rattle.mesh.specs.Mesh.{Mesh, Sound}
use Rattle.steps.specs.Mask.{Mask, SourcesBelow, Steps}
use Rattle.loop_step.specs.Refine.{refine}
use Rattle.loop_step.specs.Loop.{loop_mask}
use Rattle.mirror.specs.Mirror.{Mirrored}

-- the mesh of the next level, and the mask of each of its points
pub record Step : Type 0 where
  pub next : Mesh → Mesh
  pub mask : Mesh → ℕ → Mask

-- the step of document 01
unfoldable pub loop_step : Step
loop_step = record { next = refine; mask = loop_mask }

-- level k + 1 comes from level k by step k
unfoldable pub level_by : (ℕ → Step) → Mesh → ℕ → Mesh
level_by steps M zero = M
level_by steps M (suc k) = (steps k).next (level_by steps M k)

-- all levels through their masks
unfoldable pub masks_by : (ℕ → Step) → Mesh → Steps
masks_by steps M = record { size = λ k. (level_by steps M k).count; mask = λ k x. (steps k).mask (level_by steps M k) x }

-- what any step brings: sound meshes stay sound, and a mask divides by something and names points of the level below
pub record Founded (s : Step) : Type 0 where
  pub sound : (M : Mesh) → Sound M → Sound (s.next M)
  pub below : (M : Mesh) → Sound M → (x : ℕ) → x < (s.next M).count → SourcesBelow M.count (s.mask M x).terms
  pub divides : (M : Mesh) → Sound M → (x : ℕ) → x < (s.next M).count → 0 < (s.mask M x).divisor

-- the same weights at the same sources, in another order
pub record SameMask (μ ν : Mask) : Type 0 where
  pub terms : Permᴰ μ.terms ν.terms
  pub divisor : ν.divisor ≡ μ.divisor

-- what the pair asks of a step: mirrored meshes have the same masks, and come out mirrored
pub record KeepsMirror (s : Step) : Type 0 where
  pub masks : (M N : Mesh) → Sound M → Mirrored M N → (x : ℕ) → x < (s.next M).count → SameMask (s.mask M x) (s.mask N x)
  pub rings : (M N : Mesh) → Sound M → Mirrored M N → Mirrored (s.next M) (s.next N)
