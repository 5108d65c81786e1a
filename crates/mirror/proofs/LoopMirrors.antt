-- Loop's step on a mirrored mesh: the edge of each new vertex is the same, with the two vertices beside it exchanged; so the masks have the same
-- terms in another order, and the rings come out reversed, up to where they begin.
-- Assumes nothing.
use mathlib.Core.Path.{◌≡◌, refl, sym, ap, ap₂, ◌∙◌, subst}
use mathlib.Core.List.Permᴰ
use mathlib.Core.List.{List, [], ◌∷◌, map, reverse, reverse_aux}
use mathlib.Core.Logic.{⊎_elim}
use Prim.Native.Nat.{ℕ, ◌+◌, ◌≤◌, ◌<◌}
use native.Mathlib.Omega.{arith}
use Rattle.mesh.specs.Ring.{◌∈◌, next, prev, SameRound}
use Rattle.mesh.specs.Mesh.{Mesh, Sound}
use Rattle.mesh.proofs.Lists.{lt_split}
use Rattle.mesh.proofs.SoundMeshes as H
use Rattle.mesh.proofs.Shuffled.{map_shuffled}
use Rattle.mesh.proofs.SameRounds.{round_mapped}
use Rattle.loop_step.specs.Refine.{mid, low_end, high_end, around, refine, level}
use Rattle.loop_step.specs.Loop.{edge_mask, loop_mask, loop}
use Rattle.loop_step.proofs.Mids as E
use Rattle.loop_step.proofs.Refined as refined
use Rattle.loop_step.proofs.Levels.{loop_grounded}
use Rattle.loop_step.proofs.LoopMasks.{old_mask, edge_mask_lem}
use Rattle.loop_step.proofs.LoopMeans.{loop_mean}
use Rattle.mirror.specs.Mirror.{Mirrored}
use Rattle.mirror.specs.Step.{loop_step, Founded, SameMask, KeepsMirror}
use Rattle.mirror.proofs.Mirrorings as m
use Rattle.mirror.proofs.MirroredMeshIsSound.{mirrored_is_sound}

module _ (f : ℕ → ℕ) where
  map_reverse_aux : (l r : List ℕ) → map f (reverse_aux l r) ≡ reverse_aux (map f l) (map f r)
  map_reverse_aux [] r = refl
  map_reverse_aux (a ∷ l) r = map_reverse_aux l (a ∷ r)

  map_same : (g : ℕ → ℕ) → ((x : ℕ) → f x ≡ g x) → (l : List ℕ) → map f l ≡ map g l
  map_same g h [] = refl
  map_same g h (a ∷ l) = ap₂ (λ x r. x ∷ r) (h a) (map_same g h l)

module _ (M N : Mesh) (S : Sound M) (R : Mirrored M N) where
  T : Sound N
  T = mirrored_is_sound M N R S

  -- what holds of the new vertex of each edge holds of every new vertex
  at_edges : (P : ℕ → Type 0) → ((p q : ℕ) → p < q → p < M.count → q ∈ M.ring p → P (mid M p q))
      → (x : ℕ) → M.count ≤ x → x < (refine M).count → P x
  at_edges P edge x l h =
      let e = E.ends M S.proper S.mutual' x l (rw (refined.refine_count M S) at h) in
      subst P e.3 (edge (low_end M x) (high_end M x) e.0 (omega arith) e.2)

  -- edge p, q of both meshes
  module _ (p q : ℕ) (l : p < q) (h : p < M.count) (i : q ∈ M.ring p) where
    h' : p < N.count
    h' = rw R.count h

    i' : q ∈ N.ring p
    i' = m.mirrored_in M N R p q h i

    g : q < M.count
    g = (S.proper p h).known q i

    -- the two vertices beside it change places
    after_is : next (N.ring p) q ≡ prev (M.ring p) q
    after_is = (m.facing M N R p h (S.proper p h)).next_is q i

    before_is : prev (N.ring p) q ≡ next (M.ring p) q
    before_is = (m.facing M N R p h (S.proper p h)).prev_is q i

    new_mask : SameMask (loop_mask M (mid M p q)) (loop_mask N (mid M p q))
    new_mask =
        let here = edge_mask_lem M S p q l h i in
        let there = ap (loop_mask N) (sym (m.mid_mirrored M N R p q h)) ∙ edge_mask_lem N T p q l h' i' ∙ ap₂ (edge_mask p q) after_is before_is in
        rw (here, there) (record { terms = Permᴰ.cons refl (Permᴰ.cons refl (Permᴰ.swap refl refl)); divisor = refl })

    new_ring_lem : SameRound (reverse ((refine M).ring (mid M p q))) ((refine N).ring (mid M p q))
    new_ring_lem =
        let mids : (v u : ℕ) → v < M.count → mid N v u ≡ mid M v u = m.mid_mirrored M N R in
        let here : (refine M).ring (mid M p q) ≡ around M p q (next (M.ring p) q) (prev (M.ring p) q) =
        refined.new_ring_lem M S p q l h i ∙ ap (around M p q (next (M.ring p) q)) (sym (H.prev_next M S p q h i)) in
        let there : (refine N).ring (mid M p q) ≡ around N p q (prev (M.ring p) q) (next (M.ring p) q) =
        ap (λ x. (refine N).ring x) (sym (mids p q h)) ∙ refined.new_ring_lem N T p q l h' i'
        ∙ ap₂ (around N p q) after_is (sym (H.prev_next N T p q h' i') ∙ before_is) in
        let turned = image (next (M.ring p) q) (prev (M.ring p) q) (λ u. mids p u h) (λ u. mids q u g) in
        rw (here, there) (record { start = 5; within = omega arith; turned = turned })
      where
        image : (a b : ℕ) → ((u : ℕ) → mid N p u ≡ mid M p u) → ((u : ℕ) → mid N q u ≡ mid M q u)
            → around N p q b a ≡ p ∷ mid M p a ∷ mid M q a ∷ q ∷ mid M q b ∷ mid M p b ∷ []
        image a b e f = rw (e a, e b, f a, f b)

  old_mask_same : (v : ℕ) → v < M.count → SameMask (loop_mask M v) (loop_mask N v)
  old_mask_same v h =
      rw (old_mask M v h, old_mask N v (rw R.count h), m.length_mirrored M N R v h) (record {
        terms = Permᴰ.cons refl (map_shuffled _ (m.neighbours M N R v h));
        divisor = refl;
      })

  old_ring_mirrored : (v : ℕ) → v < M.count → SameRound (reverse ((refine M).ring v)) ((refine N).ring v)
  old_ring_mirrored v h =
      let here = refined.old_ring_lem M S v h in
      let there = refined.old_ring_lem N T v (rw R.count h) ∙ map_same (mid N v) (mid M v) (λ u. m.mid_mirrored M N R v u h) (N.ring v) in
      let s = round_mapped (mid M v) (reverse (M.ring v)) (N.ring v) (R.ring v h) in
      rw (here, there) (subst (λ l. SameRound l (map (mid M v) (N.ring v))) (map_reverse_aux (mid M v) (M.ring v) []) s)

  same_masks : (x : ℕ) → x < (refine M).count → SameMask (loop_mask M x) (loop_mask N x)
  same_masks x h =
      ⊎_elim (λ l. old_mask_same x l.1) (λ l. at_edges (λ y. SameMask (loop_mask M y) (loop_mask N y)) new_mask x l.1 h) (lt_split x M.count)

  refine_mirrored : Mirrored (refine M) (refine N)
  refine_mirrored = record {
    count = refined.refine_count N T ∙ ap₂ (λ v e. v + e) R.count (m.edges_mirrored M N R) ∙ sym (refined.refine_count M S);
    ring = λ x h.
        ⊎_elim
        (λ l. old_ring_mirrored x l.1)
        (λ l. at_edges (λ y. SameRound (reverse ((refine M).ring y)) ((refine N).ring y)) new_ring_lem x l.1 h)
        (lt_split x M.count);
  }

-- ---- so Loop's step is one that keeps the mirror

pub loop_founded : Founded loop_step
unfolding loop_step loop level
loop_founded = record {
  sound = refined.refine_sound;
  below = λ M S x h. loop_grounded M S 0 x h;
  divides = λ M S x h. (loop_mean M S x).positive;
}

pub loop_keeps_the_mirror : KeepsMirror loop_step
unfolding loop_step
loop_keeps_the_mirror = record { masks = same_masks; rings = refine_mirrored }
