-- What refinement keeps, and how it counts (document 01, "Ring rules" and "Refinement, one level"): a sound mesh refined is sound, at every level;
-- old valences stay and new ones are 6; V, E, F become V + E, 4E, 4F; and V - E + F stays.
-- Assumes nothing.
use mathlib.Core.Path.{◌≡◌, refl, ◌∙◌}
use Prim.Native.Nat.{ℕ, zero, suc, ◌+◌, ◌*◌, ◌^◌, ◌≤◌, ◌<◌}
use native.Mathlib.Nat.{pow-suc}
use native.Mathlib.Omega.{arith}
use lib.ListN.{length}
use Rattle.mesh.specs.Mesh.{Mesh, Sound, valences, edges, faces, characteristic}
use Rattle.mesh.proofs.Edges as E
use Rattle.mesh.proofs.Faces as H
use Rattle.steps.proofs.Ints.{sub_eq}
use Rattle.loop_step.specs.Refine.{refine, level}
use Rattle.loop_step.proofs.Refined as R
use Rattle.loop_step.proofs.RefinedFaces as F
use Rattle.loop_step.proofs.Levels as L

-- ---- one level

module _ (M : Mesh) (S : Sound M) where
  pub refinement_is_sound : Sound (refine M)
  refinement_is_sound = R.refine_sound M S

  -- the sum of valences is even, and E is its half exactly
  pub valences_are_twice_edges : valences M ≡ 2 * edges M
  valences_are_twice_edges = E.handshake M S.proper S.mutual'

  -- 2E divides by 3, and F is the third exactly
  pub thrice_faces_are_twice_edges : 3 * faces M ≡ 2 * edges M
  thrice_faces_are_twice_edges = H.three_faces M S

  -- V becomes V + E
  pub refined_count : (refine M).count ≡ M.count + edges M
  refined_count = R.refine_count M S

  -- E becomes 4E
  pub refined_edges : edges (refine M) ≡ 4 * edges M
  refined_edges = R.refine_edges M S

  -- F becomes 4F
  pub refined_faces : faces (refine M) ≡ 4 * faces M
  refined_faces = F.refine_faces M S

  -- V - E + F stays
  pub characteristic_stays : characteristic (refine M) ≡ characteristic M
  unfolding characteristic
  characteristic_stays = sub_eq ((refine M).count + faces (refine M)) (edges (refine M)) (M.count + faces M) (edges M) (F.euler M S)

  -- an old vertex keeps its valence
  pub old_valence_stays : (v : ℕ) → v < M.count → length ((refine M).ring v) ≡ length (M.ring v)
  old_valence_stays = R.old_valence M S

  -- a new one has valence 6
  pub new_valence_is_six : (x : ℕ) → M.count ≤ x → x < (refine M).count → length ((refine M).ring x) ≡ 6
  new_valence_is_six x l h = R.new_valence M S x l (omega (arith, refined_count))

-- ---- every level

four_times : (k e : ℕ) → 4 ^ suc k * e ≡ 4 * (4 ^ k * e)
four_times k e = rw (pow-suc 4 k) (omega arith)

module _ (M : Mesh) (S : Sound M) where
  pub every_level_is_sound : (k : ℕ) → Sound (level M k)
  every_level_is_sound = L.level_sound M S

  pub next_level_count : (k : ℕ) → (level M (suc k)).count ≡ (level M k).count + edges (level M k)
  unfolding level
  next_level_count k = refined_count (level M k) (every_level_is_sound k)

  pub level_edges_lem : (k : ℕ) → edges (level M k) ≡ 4 ^ k * edges M
  unfolding level
  level_edges_lem zero = omega arith
  level_edges_lem (suc k) = omega (arith, refined_edges (level M k) (every_level_is_sound k), level_edges_lem k, four_times k (edges M))

  pub level_faces : (k : ℕ) → faces (level M k) ≡ 4 ^ k * faces M
  unfolding level
  level_faces zero = omega arith
  level_faces (suc k) = omega (arith, refined_faces (level M k) (every_level_is_sound k), level_faces k, four_times k (faces M))

  -- V + E + 4E + .. : three times the new vertices of all levels up to k are E times 4 ^ k - 1
  pub level_count_lem : (k : ℕ) → 3 * (level M k).count + edges M ≡ 3 * M.count + 4 ^ k * edges M
  unfolding level
  level_count_lem zero = omega arith
  level_count_lem (suc k) = omega (arith, next_level_count k, level_edges_lem k, level_count_lem k, four_times k (edges M))

  pub level_characteristic : (k : ℕ) → characteristic (level M k) ≡ characteristic M
  unfolding level
  level_characteristic zero = refl
  level_characteristic (suc k) = characteristic_stays (level M k) (every_level_is_sound k) ∙ level_characteristic k

  -- a vertex keeps its valence at every later level
  pub valence_stays : (k v : ℕ) → v < M.count → (v < (level M k).count) × (length ((level M k).ring v) ≡ length (M.ring v))
  unfolding level
  valence_stays zero v h = (h, refl)
  valence_stays (suc k) v h =
      let r = valence_stays k v h in
      (omega (arith, next_level_count k, r.0), old_valence_stays (level M k) (every_level_is_sound k) v r.0 ∙ r.1)
