-- What an edit of the mesh keeps, and how it counts (document 02, order 1): an edit that nothing stands against leaves a
-- sound mesh; a split adds a vertex, three edges and two faces, a flip adds none; and V - E + F stays.
-- Assumes nothing.
use mathlib.Core.Path.{◌≡◌}
use mathlib.Core.Bool.{Bool, false, ◌||◌}
use Prim.Native.Nat.{ℕ, suc, ◌+◌, ◌*◌, ◌<◌, min, max}
use native.Mathlib.Omega.{arith}
use lib.Dec.{leb}
use lib.ListN.{length}
use borrow.Author.Tests.{leb-false, not-false}
use Rattle.mesh.specs.Limits.{most_count, least_valence, most_valence}
use Rattle.mesh.specs.Ring.{◌∈◌, has, follows}
use Rattle.mesh.specs.Mesh.{Mesh, Sound, valences, edges, faces, characteristic}
use Rattle.mesh.proofs.First.{or_false, true_not_false}
use Rattle.mesh.proofs.Places.{has_in, in_has, follows_true}
use Rattle.mesh.proofs.SoundMeshes.{Face}
use Rattle.reshape.specs.Rows.{rewritten}
use Rattle.reshape.specs.Reshape.{Corners, from_smallest, beyond, behind, edge_rows, face_rows, flip_rows, split_edge, split_face, flip, no_edge, no_face, no_number, full, full_beside, full_corner, cannot_flip}
use Rattle.reshape.proofs.Triangles.{face_of}
use Rattle.reshape.proofs.Kites.{kite_at}
use Rattle.reshape.proofs.EditCounts.{edges_after, faces_after, characteristic_after}
use Rattle.reshape.proofs.EdgeSplit as E
use Rattle.reshape.proofs.FaceSplit as T
use Rattle.reshape.proofs.SmallestCorner.{smallest_face, smallest_each}
use Rattle.reshape.proofs.EdgeFlip as F

-- from the sound mesh M an edit that adds d vertices leads to N
pub record Kept (M N : Mesh) (d : ℕ) : Type 0 where
  pub sound : Sound N
  pub count : N.count ≡ M.count + d
  pub edges_more : edges N ≡ edges M + 3 * d
  pub faces_more : faces N ≡ faces M + 2 * d
  pub characteristic_stays : characteristic N ≡ characteristic M

kept : (M N : Mesh) → Sound M → Sound N → (d : ℕ) → N.count ≡ M.count + d → valences N ≡ valences M + 6 * d → Kept M N d
kept M N S T d c s = record {
  sound = T;
  count = c;
  edges_more = edges_after M N S T d c s;
  faces_more = faces_after M N S T d c s;
  characteristic_stays = characteristic_after M N S T d c s;
}

-- ---- what the tests say

module _ (M : Mesh) where
  pub edge_there : (p q : ℕ) → no_edge M p q ≡ false → q ∈ M.ring p
  unfolding no_edge
  edge_there p q e = has_in q (M.ring p) (not-false (has q (M.ring p)) e)

  pub room_at : (v : ℕ) → full M v ≡ false → length (M.ring v) < most_valence
  unfolding full
  room_at v e = leb-false most_valence (length (M.ring v)) e

  pub number_there : no_number M ≡ false → M.count < most_count
  unfolding no_number
  number_there e = leb-false most_count M.count e

  pub room_beside : (p q : ℕ) → full_beside M p q ≡ false
      → (length (M.ring (beyond M p q)) < most_valence) × (length (M.ring (behind M p q)) < most_valence)
  unfolding full_beside
  room_beside p q e =
      let o = or_false (full M (beyond M p q)) (full M (behind M p q)) e in
      (room_at (beyond M p q) o.0, room_at (behind M p q) o.1)

  pub room_corners : (u v w : ℕ) → full_corner M u v w ≡ false → let c = from_smallest u v w in
      (length (M.ring c.one) < most_valence) × (length (M.ring c.two) < most_valence) × (length (M.ring c.three) < most_valence)
  unfolding full_corner
  room_corners u v w e =
      let o = or_false (full M u) (full M v || full M w) e in
      let t = or_false (full M v) (full M w) o.1 in
      smallest_each (λ y. length (M.ring y) < most_valence) u v w (room_at u o.0) (room_at v t.0) (room_at w t.1)

  pub can_flip : (p q : ℕ) → cannot_flip M p q ≡ false
      → (least_valence < length (M.ring p)) × (least_valence < length (M.ring q)) × (behind M p q ∈ M.ring (beyond M p q) → ⊥)
  unfolding cannot_flip
  can_flip p q e =
      let joined : Bool = has (behind M p q) (M.ring (beyond M p q)) in
      let o = or_false (leb (length (M.ring p)) least_valence) (leb (length (M.ring q)) least_valence || joined) e in
      let t = or_false (leb (length (M.ring q)) least_valence) joined o.1 in (
        leb-false (length (M.ring p)) least_valence o.0,
        leb-false (length (M.ring q)) least_valence t.0,
        (λ m. true_not_false (in_has (behind M p q) (M.ring (beyond M p q)) m) t.1),
      )

-- ---- an edge split

module _ (M : Mesh) (S : Sound M) where
  edge_split : (p q : ℕ) → p < M.count → no_edge M p q ≡ false → full_beside M p q ≡ false
      → Kept M (rewritten M (suc M.count) (edge_rows M p q)) 1
  unfolding edge_rows rewritten
  edge_split p q h e f =
      let k = kite_at M S p q h (edge_there M p q e) in
      let r = room_beside M p q f in
      kept M (E.N M S k) S (E.edge_split_sound M S k r.0 r.1) 1 (omega arith) (E.edge_split_sum M S k)

  pub splitting_an_edge : (u v : ℕ) → u < M.count → v < M.count → no_edge M (min u v) (max u v) ≡ false
      → full_beside M (min u v) (max u v) ≡ false → Kept M (split_edge M u v) 1
  unfolding split_edge
  splitting_an_edge u v h g e f = edge_split (min u v) (max u v) (omega arith) e f

  -- ---- a face split

  face_split : (c : Corners) → Face M S c.two c.one c.three
      → length (M.ring c.one) < most_valence → length (M.ring c.two) < most_valence → length (M.ring c.three) < most_valence
      → Kept M (rewritten M (suc M.count) (face_rows M c)) 1
  unfolding face_rows rewritten
  face_split c f ru rv rw' = kept M (T.N M S f) S (T.face_split_sound M S f ru rv rw') 1 (omega arith) (T.face_split_sum M S f)

  pub face_there : (u v w : ℕ) → v < M.count → no_face M u v w ≡ false → Face M S v u w
  unfolding no_face
  face_there u v w h e = face_of M S v u w h (follows_true (M.ring v) u w (not-false (follows (M.ring v) u w) e))

  pub splitting_a_face : (u v w : ℕ) → v < M.count → no_face M u v w ≡ false → full_corner M u v w ≡ false
      → Kept M (split_face M u v w) 1
  unfolding split_face
  splitting_a_face u v w h e f =
      let r = room_corners M u v w f in
      face_split (from_smallest u v w) (smallest_face M S u v w (face_there u v w h e)) r.0 r.1 r.2

  -- ---- an edge flipped

  edge_flip : (p q : ℕ) → p < M.count → no_edge M p q ≡ false → full_beside M p q ≡ false → cannot_flip M p q ≡ false
      → Kept M (rewritten M M.count (flip_rows M p q)) 0
  unfolding flip_rows rewritten
  edge_flip p q h e f g =
      let k = kite_at M S p q h (edge_there M p q e) in
      let r = room_beside M p q f in
      let n = can_flip M p q g in
      kept M (F.N M S k) S (F.flip_sound M S k n.0 n.1 n.2 r.0 r.1) 0 (omega arith) (F.flip_sum M S k n.2)

  pub flipping_an_edge : (u v : ℕ) → u < M.count → v < M.count → no_edge M (min u v) (max u v) ≡ false
      → full_beside M (min u v) (max u v) ≡ false → cannot_flip M (min u v) (max u v) ≡ false → Kept M (flip M u v) 0
  unfolding flip
  flipping_an_edge u v h g e f n = edge_flip (min u v) (max u v) (omega arith) e f n
