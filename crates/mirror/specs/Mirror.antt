-- To be believed.
-- The mirrored mesh (document 02, order 3): every ring goes the other way round, wherever it begins.
-- Assumes nothing.
use Rattle.std.specs.Prelude.{◌≡◌, reverse, ℕ, ◌<◌}
use Rattle.mesh.specs.Ring.{SameRound}
use Rattle.mesh.specs.Mesh.{Mesh, mesh}

-- each ring reversed, as it stands
abbrev pub mirror : Mesh → Mesh
mirror M = mesh M.count (λ v. reverse (M.ring v))

-- N has M's vertices, and each ring reversed, up to where it begins
pub record Mirrored (M N : Mesh) : Type 0 where
  pub count : N.count ≡ M.count
  pub ring : (v : ℕ) → v < M.count → SameRound (reverse (M.ring v)) (N.ring v)
