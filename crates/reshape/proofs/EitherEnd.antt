-- An edge is named from either end, a face from any corner (document 02, order 1): whichever name is used, the same stands
-- against the edit, the edit is the same, and the new vertex lies at the same mean.
-- Assumes nothing.
use mathlib.Core.Path.{◌≡◌, refl, sym, ap, ap₂, ◌∙◌}
use mathlib.Core.Bool.{Bool, false, not, ◌||◌}
use mathlib.Core.List.Permᴰ
use mathlib.Core.List.{List, [], ◌∷◌, ◌++◌, map}
use mathlib.Core.Logic.{⊎_elim, ◌≢◌}
use Prim.Native.Nat.{ℕ, suc, ◌≤◌, ◌<◌, min}
use native.Mathlib.Nat.{min_comm, max_comm}
use native.Mathlib.Omega.{arith}
use lib.Dec.{leb}
use lib.IntN.{ℤ}
use lib.ListN.{length}
use borrow.Author.Tests.{lt-ltb, le-ltb}
use Rattle.mesh.specs.Limits.{least_valence}
use Rattle.mesh.specs.Ring.{has, next, prev, follows}
use Rattle.mesh.specs.Mesh.{Mesh, Sound}
use Rattle.mesh.proofs.Lists.{lt_split}
use Rattle.mesh.proofs.First.{or_comm, or_swap, same_tests}
use Rattle.mesh.proofs.Shuffled.{map_shuffled}
use Rattle.mesh.proofs.Places.{has_in, in_has, follows_true, true_follows}
use Rattle.mesh.proofs.SoundMeshes.{Face, prev_next, mesh_same}
use Rattle.steps.specs.Round.{rounded}
use Rattle.steps.specs.Mask.{weighted, by_mask, term}
use Rattle.steps.proofs.ShuffledTerms.{weighted_shuffled}
use Rattle.reshape.specs.Rows.{Row, ring_by, rewritten}
use Rattle.reshape.specs.Reshape.{from_smallest, flip_rows_of, split_edge, split_face, flip, no_edge, no_face, full, full_beside, full_corner, cannot_flip}
use Rattle.reshape.specs.Mean.{mean_at}
use Rattle.reshape.proofs.Triangles.{at_each, face_of}
use Rattle.reshape.proofs.Kites.{Kite, kite_at, other_end}
use Rattle.reshape.proofs.EdgeFlip as F
use Rattle.reshape.proofs.FaceSplit as T
use Rattle.reshape.proofs.ReshapingKeepsSoundness.{edge_there, face_there}

-- ---- the mean of a list turned by one

module _ (at : ℕ → ℤ) (v : ℕ) where
  turned_sum : (l : List ℕ) → weighted (map (term 1) (l ++ (v ∷ []))) at ≡ weighted (map (term 1) (v ∷ l)) at
  turned_sum l = weighted_shuffled at (map_shuffled (term 1) (Permᴰ.append_comm l (v ∷ [])))

  turned_long : (l : List ℕ) → length (l ++ (v ∷ [])) ≡ suc (length l)
  turned_long [] = refl
  turned_long (a ∷ l) = ap suc (turned_long l)

  turned_mean : (l : List ℕ) → mean_at (v ∷ l) at ≡ mean_at (l ++ (v ∷ [])) at
  unfolding mean_at by_mask
  turned_mean l = sym (ap₂ rounded (turned_sum l) (turned_long l))

-- ---- an edge

pub split_edge_from_either_end : (M : Mesh) (u v : ℕ) → split_edge M u v ≡ split_edge M v u
unfolding split_edge
split_edge_from_either_end M u v = rw (min_comm u v, max_comm u v)

pub flip_from_either_end : (M : Mesh) (u v : ℕ) → flip M u v ≡ flip M v u
unfolding flip
flip_from_either_end M u v = rw (min_comm u v, max_comm u v)

pub mean_from_either_end : (at : ℕ → ℤ) (u v : ℕ) → mean_at (u ∷ v ∷ []) at ≡ mean_at (v ∷ u ∷ []) at
mean_from_either_end at u v = turned_mean at u (v ∷ [])

module _ (M : Mesh) (S : Sound M) where
  has_mutual : (p q : ℕ) → p < M.count → q < M.count → has q (M.ring p) ≡ has p (M.ring q)
  has_mutual p q h g =
      same_tests (has q (M.ring p)) (has p (M.ring q))
      (λ e. in_has p (M.ring q) (S.mutual' p q h (has_in q (M.ring p) e)))
      (λ e. in_has q (M.ring p) (S.mutual' q p g (has_in p (M.ring q) e)))

  module _ (p q : ℕ) (p_lt : p < M.count) (q_lt : q < M.count) where
    pub no_edge_from_either_end : no_edge M p q ≡ no_edge M q p
    unfolding no_edge
    no_edge_from_either_end = ap not (has_mutual p q p_lt q_lt)

    module _ (there : no_edge M p q ≡ false) where
      k : Kite M S p q (next (M.ring p) q) (prev (M.ring p) q)
      k = kite_at M S p q p_lt (edge_there M p q there)

      -- what is after the one end is before the other
      after_is_before : next (M.ring q) p ≡ prev (M.ring p) q
      after_is_before = sym (prev_next M S p q p_lt k.fa.tri.0.0)

      before_is_after : prev (M.ring q) p ≡ next (M.ring p) q
      before_is_after = prev_next M S q p q_lt k.fb.tri.0.0

      pub full_beside_from_either_end : full_beside M p q ≡ full_beside M q p
      unfolding full_beside
      full_beside_from_either_end =
          rw (after_is_before, before_is_after) (or_comm (full M (next (M.ring p) q)) (full M (prev (M.ring p) q)))

      pub cannot_flip_from_either_end : cannot_flip M p q ≡ cannot_flip M q p
      unfolding cannot_flip
      cannot_flip_from_either_end =
          let joined : Bool = has (prev (M.ring p) q) (M.ring (next (M.ring p) q)) in
          rw (after_is_before, before_is_after, ← has_mutual _ _ k.fa.w_lt k.fb.w_lt)
          (or_swap (leb (length (M.ring p)) least_valence) (leb (length (M.ring q)) least_valence) joined)

-- ---- a face

-- three corners that differ
pub from_any_corner : (u v w : ℕ) → u ≢ v → v ≢ w → w ≢ u → from_smallest u v w ≡ from_smallest v w u
unfolding from_smallest
from_any_corner u v w d e f =
    ⊎_elim
    (λ h. rw (h.0, le-ltb v (min w u) (omega arith), le-ltb w (min u v) (omega arith)))
    (λ h.
    rw h.0
    (⊎_elim (λ g. rw g.0) (λ g. rw (g.0, lt-ltb w (min u v) (omega arith))) (lt_split v (min w u))))
    (lt_split u (min v w))

-- the smallest of them comes first
pub smallest_comes_first : (u v w : ℕ) → u ≢ v → let c = from_smallest u v w in (c.one ≤ c.two) × (c.one ≤ c.three)
unfolding from_smallest
smallest_comes_first u v w d =
    ⊎_elim
    (λ h. rw h.0 (omega arith, omega arith))
    (λ h.
    rw h.0
    (⊎_elim
    (λ g. rw g.0 (omega arith, omega arith))
    (λ g. rw g.0 (let a : w ≤ u = omega arith in a, let b : w ≤ v = omega arith in b))
    (lt_split v (min w u))))
    (lt_split u (min v w))

pub mean_from_any_corner : (at : ℕ → ℤ) (u v w : ℕ) → mean_at (u ∷ v ∷ w ∷ []) at ≡ mean_at (v ∷ w ∷ u ∷ []) at
mean_from_any_corner at u v w = turned_mean at u (v ∷ w ∷ [])

pub full_corner_from_any_corner : (M : Mesh) (u v w : ℕ) → full_corner M u v w ≡ full_corner M v w u
unfolding full_corner
full_corner_from_any_corner M u v w = or_swap (full M u) (full M v) (full M w) ∙ ap (λ t. full M v || t) (or_comm (full M u) (full M w))

module _ (M : Mesh) (S : Sound M) where
  pub no_face_from_any_corner : (u v w : ℕ) → v < M.count → w < M.count → no_face M u v w ≡ no_face M v w u
  unfolding no_face
  no_face_from_any_corner u v w h g =
      ap not
      (same_tests (follows (M.ring v) u w) (follows (M.ring w) v u)
      (λ e. true_follows (M.ring w) v u (face_of M S v u w h (follows_true (M.ring v) u w e)).tri.2)
      (λ e. true_follows (M.ring v) u w (face_of M S w v u g (follows_true (M.ring w) v u e)).tri.1))

  pub corners_from_any_corner : (u v w : ℕ) → v < M.count → no_face M u v w ≡ false → from_smallest u v w ≡ from_smallest v w u
  corners_from_any_corner u v w h e =
      let f : Face M S v u w = face_there M S u v w h e in
      from_any_corner u v w (T.u_v M S f) (T.v_w M S f) (λ g. T.u_w M S f (sym g))

  pub split_face_from_any_corner : (u v w : ℕ) → v < M.count → no_face M u v w ≡ false → split_face M u v w ≡ split_face M v w u
  unfolding split_face
  split_face_from_any_corner u v w h e = rw (corners_from_any_corner u v w h e)

-- ---- a flip needs no order of the ends at all

-- meshes with the same rings below the count are equal
rewritten_same : (M : Mesh) (n : ℕ) (r s : List Row) → ((v : ℕ) → v < n → (rewritten M n r).ring v ≡ (rewritten M n s).ring v)
    → rewritten M n r ≡ rewritten M n s
unfolding rewritten
rewritten_same M n r s h = mesh_same n (ring_by r M.ring) (ring_by s M.ring) (λ v l. rw (lt-ltb v n l) at (h v l))

pub flip_either : (M : Mesh) (S : Sound M) {p q a b : ℕ} → Kite M S p q a b
    → rewritten M M.count (flip_rows_of M.ring p q a b) ≡ rewritten M M.count (flip_rows_of M.ring q p b a)
flip_either M S {p} {q} {a} {b} k =
    let j : Kite M S q p b a = other_end M S k in
    rewritten_same M M.count (flip_rows_of M.ring p q a b) (flip_rows_of M.ring q p b a) (λ v h.
    at_each (λ y. y < M.count → (F.N M S k).ring y ≡ (F.N M S j).ring y) (p ∷ q ∷ a ∷ b ∷ []) (
      (λ g. F.at_p M S k ∙ sym (F.at_q M S j)),
      (
        (λ g. F.at_q M S k ∙ sym (F.at_p M S j)),
        ((λ g. F.at_a M S k ∙ sym (F.at_b M S j)), ((λ g. F.at_b M S k ∙ sym (F.at_a M S j)), tt)),
      ),
    )
    v
    (λ o g.
    F.at_other M S k v g o.0 o.1.0 o.1.1.0 o.1.1.1.0
    ∙ sym (F.at_other M S j v g o.1.0 o.0 o.1.1.1.0 o.1.1.0))
    h)
