-- A mesh and its mirror image, vertex by vertex: the same neighbours, the other way round; and each ring rule holds of both or of neither.
-- Assumes nothing.
use mathlib.Core.Path.{◌≡◌, refl, sym, ap, ap₂, ◌∙◌, subst}
use mathlib.Core.List.Permᴰ
use mathlib.Core.List.{reverse, reverse-reverse, Permᴰ}
use Prim.Native.Nat.{ℕ, ◌+◌, ◌/◌, ◌≤◌, ◌<◌, min, max}
use native.Mathlib.Omega.{arith}
use lib.ListN.{length}
use borrow.Author.Tests.{lt-ltb}
use Rattle.mesh.specs.Search.{sum}
use Rattle.mesh.specs.Ring.{◌∈◌, next, prev, Follows, SameRound}
use Rattle.mesh.specs.Numbering.{start, number}
use Rattle.mesh.specs.Mesh.{Mesh, Proper, edges, valences, up}
use Rattle.mesh.proofs.Lists.{sum_same}
use Rattle.mesh.proofs.Rings.{next_in, prev_in}
use Rattle.mesh.proofs.RingsGoRound.{next_of_prev, prev_is_what_it_follows}
use Rattle.mesh.proofs.Shuffled.{length_shuffled, in_shuffled, distinct_shuffled, below_shuffled, over_shuffled}
use Rattle.mesh.proofs.SameRounds.{same_round, round_back, round_shuffled, round_reversed, reverse_shuffled, Facing, reversed_faces}
use Rattle.loop_step.specs.Refine.{mid}
use Rattle.mirror.specs.Mirror.{mirror, Mirrored}

-- each ring reversed as it stands is a mirrored mesh
pub mirror_mirrored : (M : Mesh) → Mirrored M (mirror M)
mirror_mirrored M = record { count = refl; ring = λ v h. rw (lt-ltb v M.count h) (same_round (reverse (M.ring v)) (reverse (M.ring v)) refl) }

-- the mirror image of the mirror image is the mesh
pub mirrored_back : (M N : Mesh) → Mirrored M N → Mirrored N M
mirrored_back M N R = record {
  count = sym R.count;
  ring = λ v h.
      let s = R.ring v (rw R.count at h) in
      round_back (M.ring v) (reverse (N.ring v))
      (subst (λ l. SameRound l (reverse (N.ring v))) (reverse-reverse (M.ring v)) (round_reversed (reverse (M.ring v)) (N.ring v) s));
}

module _ (M N : Mesh) (R : Mirrored M N) where
  -- the same neighbours
  pub neighbours : (v : ℕ) → v < M.count → Permᴰ (M.ring v) (N.ring v)
  neighbours v h = Permᴰ.trans (reverse_shuffled (M.ring v)) (round_shuffled (reverse (M.ring v)) (N.ring v) (R.ring v h))

  pub length_mirrored : (v : ℕ) → v < M.count → length (N.ring v) ≡ length (M.ring v)
  length_mirrored v h = sym (length_shuffled (neighbours v h))

  pub mirrored_in : (v u : ℕ) → v < M.count → u ∈ M.ring v → u ∈ N.ring v
  mirrored_in v u h = in_shuffled u (neighbours v h)

  in-mirrored : (v u : ℕ) → v < M.count → u ∈ N.ring v → u ∈ M.ring v
  in-mirrored v u h = in_shuffled u (Permᴰ.symm (neighbours v h))

  -- the other way round
  pub facing : (v : ℕ) → v < M.count → Proper M v → Facing (M.ring v) (N.ring v)
  facing v h P = reversed_faces (M.ring v) (N.ring v) (R.ring v h) P.distinct

  -- ---- the ring rules at one vertex

  pub proper_mirrored : (v : ℕ) → v < M.count → Proper M v → Proper N v
  proper_mirrored v h P = record {
    short = rw (length_mirrored v h) P.short;
    known = λ u m. rw R.count (P.known u (in-mirrored v u h m));
    other = λ m. P.other (in-mirrored v v h m);
    distinct = distinct_shuffled (neighbours v h) P.distinct;
  }

  pub mutual_mirrored : (v : ℕ) → v < M.count → Proper M v → ((u : ℕ) → u ∈ M.ring v → v ∈ M.ring u) → (u : ℕ) → u ∈ N.ring v → v ∈ N.ring u
  mutual_mirrored v h P both u m = let i = in-mirrored v u h m in mirrored_in u v (P.known u i) (both u i)

  -- the face v, u, w of the mesh is the face v, w, u of its image
  pub face_mirrored : ((v : ℕ) → v < M.count → Proper M v) → ((v u : ℕ) → v < M.count → u ∈ M.ring v → v ∈ M.ring u) → (v : ℕ) → v < M.count
      → ((u : ℕ) → u ∈ M.ring v → let w = next (M.ring v) u in Follows (M.ring w) v u × Follows (M.ring u) w v)
      → (u : ℕ) → u ∈ N.ring v → let w = next (N.ring v) u in Follows (N.ring w) v u × Follows (N.ring u) w v
  face_mirrored proper both v h face u m =
      let i : u ∈ M.ring v = in-mirrored v u h m in
      let w : ℕ = prev (M.ring v) u in
      let j : w ∈ M.ring v = prev_in (M.ring v) u i in
      let u_lt : u < M.count = (proper v h).known u i in
      let w_lt : w < M.count = (proper v h).known w j in
      let f : Follows (M.ring u) v w × Follows (M.ring w) u v =
      subst (λ x. Follows (M.ring x) v w × Follows (M.ring w) x v) (next_of_prev (M.ring v) (proper v h).distinct u i) (face w j) in
      let wu : w ∈ M.ring u = subst (λ x. x ∈ M.ring u) f.0.1 (next_in (M.ring u) v f.0.0) in
      let vw : v ∈ M.ring w = both v w h j in
      let d = (proper w w_lt).distinct in
      let e = (proper u u_lt).distinct in
      rw ((facing v h (proper v h)).next_is u i) (
        (mirrored_in w v w_lt vw, (facing w w_lt (proper w w_lt)).next_is v vw ∙ prev_is_what_it_follows (M.ring w) d u v f.1.0 f.1.1),
        (mirrored_in u w u_lt wu, (facing u u_lt (proper u u_lt)).next_is w wu ∙ prev_is_what_it_follows (M.ring u) e v w f.0.0 f.0.1),
      )

  -- ---- the same counts and the same numbers

  pub edges_mirrored : edges N ≡ edges M
  unfolding edges valences
  edges_mirrored = ap (λ x. x / 2) (ap (sum (λ v. length (N.ring v))) R.count ∙ sum_same _ _ M.count (λ v h. length_mirrored v h))

  ups : (p : ℕ) → p < M.count → Permᴰ (up M p) (up N p)
  unfolding up
  ups p h = over_shuffled p (neighbours p h)

  start_mirrored : (p : ℕ) → p ≤ M.count → start (up N) p ≡ start (up M) p
  unfolding start
  start_mirrored p h = sum_same _ _ p (λ i g. sym (length_shuffled (ups i (omega arith))))

  pub mid_mirrored : (u v : ℕ) → u < M.count → mid N u v ≡ mid M u v
  unfolding mid number
  mid_mirrored u v h =
      let p : ℕ = min u v in
      let g : p < M.count = omega arith in
      ap₂ (λ a b. a + b) R.count (ap₂ (λ a b. a + b) (start_mirrored p (omega arith)) (sym (below_shuffled (max u v) (ups p g))))
