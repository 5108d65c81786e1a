-- The dependents of a vertex t are the points of the next level whose masks have t as a source (document 01, "Moves"); so a point is touched exactly if it is a
-- dependent of a touched vertex. The first is Loop's own; the second is said of any masks and any lists for which the first holds.
-- Assumes nothing.
use mathlib.Core.Path.{◌≡◌, refl, sym, ap, subst, ◌∙◌}
use mathlib.Core.Bool.{Bool, true, false, ◌||◌, ◌&&◌}
use mathlib.Core.List.{List, [], ◌∷◌, ◌++◌, map}
use mathlib.Core.Logic.{⊎_elim}
use Prim.Native.Nat.{ℕ, ◌+◌, ◌≤◌, ◌<◌}
use native.Mathlib.Nat.{not-suc-le-zero}
use native.Mathlib.Omega.{arith}
use Rattle.mesh.specs.Search.{first, some}
use Rattle.mesh.specs.Ring.{times, ◌∈◌, has, next}
use Rattle.mesh.specs.Mesh.{Mesh, Sound, edges}
use Rattle.mesh.proofs.Lists.{eq_split, lt_split, here, there, times_append}
use Rattle.mesh.proofs.First.{true_not_false, same_tests, some_at, some_true}
use Rattle.mesh.proofs.Rings.{in_cons, all_in, map_in, in_map}
use Rattle.mesh.proofs.Places.{has_in, in_has, and_both}
use Rattle.mesh.proofs.SoundMeshes.{Face, face_at_lem, turned, edge_lt, edge_ne, prev_next}
use Rattle.steps.specs.Mask.{Term, Mask, any_source, SourcesBelow, term}
use Rattle.loop_step.specs.Refine.{mid, low_end, high_end, old_ring, refine, level}
use Rattle.loop_step.specs.Loop.{loop_mask, loop}
use Rattle.loop_step.specs.Dependents.{opposite, dependents}
use Rattle.loop_step.proofs.EdgeNumbers.{mid_symmetric, mid_in_range, ends_are_an_edge, mid_of_ends}
use Rattle.loop_step.proofs.Levels.{loop_grounded}
use Rattle.loop_step.proofs.LoopMasks.{sources, old_mask, new_mask, edge_mask_lem}

-- ---- any masks: touched exactly if it is a dependent of a touched one

or_right : (a : Bool) {b : Bool} → b ≡ true → a || b ≡ true
or_right true e = refl
or_right false e = e

any_of : (hit : ℕ → Bool) (ts : List Term) (s : ℕ) → s ∈ map (λ t. t.source) ts → hit s ≡ true → any_source hit ts ≡ true
any_of hit [] s m e = absurd (not-suc-le-zero m)
any_of hit (t ∷ ts) s m e =
    ⊎_elim
    (λ q. ap (λ (b : Bool). b || any_source hit ts) (ap hit (sym q.1) ∙ e))
    (λ q. or_right (hit t.source) (any_of hit ts s (in_cons s t.source (map (λ u. u.source) ts) m q.1) e))
    (eq_split s t.source)

any_by : (n : ℕ) (hit : ℕ → Bool) (ts : List Term) → SourcesBelow n ts → any_source hit ts ≡ true
    → (s : ℕ) × (s < n) × (s ∈ map (λ t. t.source) ts) × (hit s ≡ true)
any_by n hit [] b e = absurd (true_not_false e refl)
any_by n hit (t ∷ ts) b e = go (hit t.source) refl (any_by n hit ts b.1)
  where
    go : (c : Bool) → hit t.source ≡ c → (any_source hit ts ≡ true → (s : ℕ) × (s < n) × (s ∈ map (λ u. u.source) ts) × (hit s ≡ true))
        → (s : ℕ) × (s < n) × (s ∈ map (λ u. u.source) (t ∷ ts)) × (hit s ≡ true)
    go true q rest = (t.source, b.0, here t.source (map (λ u. u.source) ts), q)
    go false q rest = let r = rest (rw q at e) in (r.0, r.1, there r.0 t.source (map (λ u. u.source) ts) r.2, r.3)

module _ (n : ℕ) (μ : Mask) (below : SourcesBelow n μ.terms) (depends : ℕ → Bool) (names : (t : ℕ) → t < n → depends t ≡ has t (sources μ)) where
  -- a point with mask μ, which depends on the t for which the test holds
  pub touched_by_dependents : (hit : ℕ → Bool) → any_source hit μ.terms ≡ some (λ t. hit t && depends t) n
  touched_by_dependents hit =
      same_tests (any_source hit μ.terms) (some (λ t. hit t && depends t) n)
      (λ e.
      let r = any_by n hit μ.terms below e in
      some_true (λ t. hit t && depends t) n r.0 r.1 (rw r.3 (names r.0 r.1 ∙ in_has r.0 (sources μ) r.2)))
      (λ e.
      let r = some_at (λ t. hit t && depends t) n e in
      let s : ℕ = first (λ t. hit t && depends t) n in
      let k = and_both (hit s) (depends s) r.1 in
      any_of hit μ.terms s (has_in s (sources μ) (sym (names s r.0) ∙ k.1)) k.0)

-- ---- Loop's masks

sources_ring : (l : List ℕ) → map (λ t. t.source) (map (term 3) l) ≡ l
sources_ring [] = refl
sources_ring (u ∷ l) = ap (λ (k : List ℕ). u ∷ k) (sources_ring l)

module _ (M : Mesh) (t : ℕ) where
  -- how often x stands among the dependents, part by part
  pub dependent_times : (x : ℕ)
      → times x (dependents M t) ≡ times x (t ∷ []) + times x (M.ring t) + times x (old_ring M t) + times x (map (opposite M t) (M.ring t))
  unfolding dependents
  dependent_times x =
      omega (arith, times_append x (M.ring t) (old_ring M t ++ map (opposite M t) (M.ring t)), times_append x (old_ring M t) (map (opposite M t) (M.ring t)))

  -- each kind is among them
  pub self_depends : t ∈ dependents M t
  self_depends = omega (arith, dependent_times t, here t [])

  pub beside_depends : (u : ℕ) → u ∈ M.ring t → u ∈ dependents M t
  beside_depends u m = omega (arith, dependent_times u)

  pub edge_depends : (u : ℕ) → u ∈ M.ring t → mid M t u ∈ dependents M t
  unfolding old_ring
  edge_depends u m = omega (arith, dependent_times (mid M t u), map_in (mid M t) u (M.ring t) m)

  pub opposite_depends : (u : ℕ) → u ∈ M.ring t → mid M u (next (M.ring t) u) ∈ dependents M t
  unfolding opposite
  opposite_depends u m = omega (arith, dependent_times (mid M u (next (M.ring t) u)), map_in (opposite M t) u (M.ring t) m)

  -- a dependent is one of the four kinds
  pub by_kind : {C : Type 0} (x : ℕ) → x ∈ dependents M t → (x ≡ t → C) → (x ∈ M.ring t → C) → ((u : ℕ) → u ∈ M.ring t → x ≡ mid M t u → C)
      → ((u : ℕ) → u ∈ M.ring t → x ≡ mid M u (next (M.ring t) u) → C) → C
  unfolding old_ring opposite
  by_kind x m self beside edge far =
      ⊎_elim
      (λ e. self e.1)
      (λ e. ⊎_elim
      (λ a. beside a.1)
      (λ a. ⊎_elim
      (λ b. let r = in_map (mid M t) x (M.ring t) b.1 in edge r.0 r.1 r.2)
      (λ b. let r = in_map (opposite M t) x (M.ring t) (omega (arith, rw e.0 at (dependent_times x))) in far r.0 r.1 r.2)
      (lt_split 0 (times x (old_ring M t))))
      (lt_split 0 (times x (M.ring t))))
      (eq_split x t)

module _ (M : Mesh) (S : Sound M) where
  old_source : (v s : ℕ) → v < M.count → s ∈ v ∷ M.ring v → s ∈ sources (loop_mask M v)
  old_source v s h m = rw (old_mask M v h, sources_ring (M.ring v)) m

  -- the sources of a new vertex, whichever end is named first
  edge_sources : (p q : ℕ) → p < M.count → q ∈ M.ring p → (s : ℕ) → s ∈ p ∷ q ∷ next (M.ring p) q ∷ next (M.ring q) p ∷ []
      → s ∈ sources (loop_mask M (mid M p q))
  edge_sources p q h m s k =
      ⊎_elim
      (λ l. rw (edge_mask_lem M S p q l.1 h m, prev_next M S p q h m) k)
      (λ l.
      let g : q < M.count = edge_lt M S p q h m in
      let n : p ∈ M.ring q = S.mutual' p q h m in
      rw (mid_symmetric M S p q, edge_mask_lem M S q p (omega (arith, edge_ne M S p q h m)) g n, prev_next M S q p g n) (omega arith))
      (lt_split p q)

  -- a vertex is a source of its dependents
  depends_on : (t x : ℕ) → t < M.count → x ∈ dependents M t → t ∈ sources (loop_mask M x)
  depends_on t x h m =
      by_kind M t x m
      (λ e. rw e (old_source t t h (here t (M.ring t))))
      (λ k. old_source x t (edge_lt M S t x h k) (there t x (M.ring x) (S.mutual' t x h k)))
      (λ u k e. rw e (edge_sources t u h k t (here t (u ∷ next (M.ring t) u ∷ next (M.ring u) t ∷ []))))
      (λ u k e.
      let w : ℕ = next (M.ring t) u in
      let f : Face M S u w t = turned M S (face_at_lem M S t u h k) in
      rw e (edge_sources u w f.v_lt f.tri.0.0 t (third u w t (next (M.ring w) u) f.tri.0.1)))
    where
      third : (a b c d : ℕ) {z : ℕ} → z ≡ c → c ∈ a ∷ b ∷ z ∷ d ∷ []
      third a b c d e = rw e (there c a (b ∷ c ∷ d ∷ []) (there c b (c ∷ d ∷ []) (here c (d ∷ []))))

  -- a vertex depends on the sources of its mask
  source_of : (t x : ℕ) → x < M.count + edges M → t ∈ sources (loop_mask M x) → x ∈ dependents M t
  source_of t x h m = ⊎_elim (λ l. old l.1) (λ l. new l.1) (lt_split x M.count)
    where
      old : x < M.count → x ∈ dependents M t
      old l =
          let k : t ∈ x ∷ M.ring x = rw (old_mask M x l, sources_ring (M.ring x)) at m in
          ⊎_elim
          (λ e. subst (λ y. y ∈ dependents M t) e.1 (self_depends M t))
          (λ e. beside_depends M t x (S.mutual' x t l (in_cons t x (M.ring x) k e.1)))
          (eq_split t x)

      new : M.count ≤ x → x ∈ dependents M t
      new l =
          let p : ℕ = low_end M x in
          let q : ℕ = high_end M x in
          let e = ends_are_an_edge M S x l h in
          let g : p < M.count = omega arith in
          let k = e.2 in
          let fa : Face M S p q (next (M.ring p) q) = face_at_lem M S p q g k in
          let fb : Face M S q p (next (M.ring q) p) = face_at_lem M S q p e.1 (S.mutual' p q g k) in
          let o : mid M p q ≡ x = mid_of_ends M S x l h in
          let i : mid M q p ≡ x = mid_symmetric M S q p ∙ o in
          all_in (λ s. x ∈ dependents M s) (p ∷ q ∷ next (M.ring p) q ∷ next (M.ring q) p ∷ []) (
            rw o at (edge_depends M p q k),
            (
              rw i at (edge_depends M q p fb.tri.0.0),
              (
                rw (fa.tri.2.1, o) at (opposite_depends M (next (M.ring p) q) p fa.tri.2.0),
                (rw (fb.tri.2.1, i) at (opposite_depends M (next (M.ring q) p) q fb.tri.2.0), tt),
              ),
            ),
          ) t (rw (new_mask M x l, prev_next M S p q g k) at m)

  -- x is a dependent of t exactly if t is a source of the mask of x
  pub dependents_are_by_masks : (t x : ℕ) → t < M.count → x < M.count + edges M → has x (dependents M t) ≡ has t (sources (loop_mask M x))
  dependents_are_by_masks t x h g =
      same_tests (has x (dependents M t)) (has t (sources (loop_mask M x)))
      (λ e. in_has t (sources (loop_mask M x)) (depends_on t x h (has_in x (dependents M t) e)))
      (λ e. in_has x (dependents M t) (source_of t x g (has_in t (sources (loop_mask M x)) e)))

  -- a point of the next level is touched exactly if it is a dependent of a touched vertex
  pub touched_is_dependent : (hit : ℕ → Bool) (x : ℕ) → x < M.count + edges M
      → any_source hit (loop_mask M x).terms ≡ some (λ t. hit t && has x (dependents M t)) M.count
  unfolding loop level refine
  touched_is_dependent hit x h =
      touched_by_dependents M.count (loop_mask M x) (loop_grounded M S 0 x h) (λ t. has x (dependents M t)) (λ t l. dependents_are_by_masks t x l h) hit

  -- dependents are vertices of the next level
  pub dependents_below : (t x : ℕ) → t < M.count → x ∈ dependents M t → x < M.count + edges M
  dependents_below t x h m =
      by_kind M t x m
      (λ e. omega arith)
      (λ k. omega (arith, edge_lt M S t x h k))
      (λ u k e. omega (arith, mid_in_range M S t u h k))
      (λ u k e.
      let f : Face M S u (next (M.ring t) u) t = turned M S (face_at_lem M S t u h k) in
      omega (arith, mid_in_range M S u (next (M.ring t) u) f.v_lt f.tri.0.0))
