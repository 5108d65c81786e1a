-- The mirrored mesh of a sound mesh is sound (document 02, order 3), and has the same V, E and F.
-- Assumes nothing.
use mathlib.Core.Path.{◌≡◌}
use Prim.Native.Nat.{ℕ, ◌<◌}
use Rattle.mesh.specs.Mesh.{Mesh, Sound, edges, faces}
use Rattle.mirror.specs.Mirror.{mirror, Mirrored}
use Rattle.mirror.proofs.Mirrorings as m

module _ (M N : Mesh) (R : Mirrored M N) where
  pub mirrored_is_sound : Sound M → Sound N
  mirrored_is_sound S = record {
    proper = λ v i. let h = here v i in m.proper_mirrored M N R v h (S.proper v h);
    three = λ v i. let h = here v i in rw (m.length_mirrored M N R v h) (S.three v h);
    mutual' = λ v u i. let h = here v i in m.mutual_mirrored M N R v h (S.proper v h) (λ x. S.mutual' v x h) u;
    face = λ v u i. let h = here v i in m.face_mirrored M N R S.proper S.mutual' v h (λ x. S.face v x h) u;
  }
    where
      here : (v : ℕ) → v < N.count → v < M.count
      here v i = rw R.count at i

  pub same_edges : edges N ≡ edges M
  same_edges = m.edges_mirrored M N R

  pub same_faces : faces N ≡ faces M
  unfolding faces
  same_faces = rw same_edges

-- each ring reversed as it stands
pub mirror_is_sound : (M : Mesh) → Sound M → Sound (mirror M)
mirror_is_sound M = mirrored_is_sound M (mirror M) (m.mirror_mirrored M)
