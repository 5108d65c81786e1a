-- A sound mesh refined is sound: old valences are kept, new ones are 6, and edges come to four times as many.
-- Assumes nothing.
use mathlib.Core.Path.{◌≡◌, refl, sym, ap, ◌∙◌, subst}
use mathlib.Core.List.{[], ◌∷◌, map}
use mathlib.Core.Logic.{⊎_elim, ◌≢◌}
use Prim.Native.Nat.{ℕ, ◌+◌, ◌*◌, ◌≤◌, ◌<◌, min, max}
use native.Mathlib.Omega.{arith}
use lib.Dec.{lit<, lit≤}
use lib.ListN.{length, length-map}
use borrow.Author.Tests.{lt-ltb, le-ltb}
use Rattle.mesh.specs.Search.{sum}
use Rattle.mesh.specs.Ring.{◌∈◌, place_after, next, Follows}
use Rattle.mesh.specs.Mesh.{Mesh, Proper, Sound, edges, valences}
use Rattle.mesh.proofs.Lists.{lt_split, sum_same, sum_more, sum_const}
use Rattle.mesh.proofs.Rings.{All, all_in, Apart, apart_distinct, next_in, next_get_or, next_map, map_in, in_map, distinct_map, get_or_in}
use Rattle.mesh.proofs.Edges as H
use Rattle.mesh.proofs.SoundMeshes.{same_pair, Tri, turn, edge_lt, edge_ne, Face, face_at_lem, turned, prev_next, Apart₄, apart₄}
use Rattle.loop_step.specs.Refine.{mid, low_end, high_end, old_ring, around, new_ring, refine}
use Rattle.loop_step.proofs.Mids as E

module _ (M : Mesh) (S : Sound M) where
  -- ---- the new rings

  pub old_ring_lem : (v : ℕ) → v < M.count → (refine M).ring v ≡ map (mid M v) (M.ring v)
  unfolding refine old_ring
  old_ring_lem v h = rw (lt-ltb v (M.count + edges M) (omega arith), lt-ltb v M.count h)

  mid_range : (v u : ℕ) → v < M.count → u ∈ M.ring v → (M.count ≤ mid M v u) × (mid M v u < M.count + edges M)
  mid_range = E.mid_range M S.proper S.mutual'

  mid_sym : (v u : ℕ) → mid M v u ≡ mid M u v
  mid_sym = E.mid_sym M S.proper S.mutual'

  mid_inj : (v u v' u' : ℕ) → v < M.count → u ∈ M.ring v → v' < M.count → u' ∈ M.ring v' → mid M v u ≡ mid M v' u' → (min v u ≡ min v' u') × (max v u ≡ max v' u')
  mid_inj = E.mid_inj M S.proper S.mutual'

  pub new_ring_lem : (p q : ℕ) → p < q → p < M.count → q ∈ M.ring p → (refine M).ring (mid M p q) ≡ around M p q (next (M.ring p) q) (next (M.ring q) p)
  unfolding refine new_ring
  new_ring_lem p q l h m =
      let e = E.ends_of M S.proper S.mutual' p q l h m in
      let r = mid_range p q h m in
      rw (lt-ltb (mid M p q) (M.count + edges M) r.1, le-ltb (mid M p q) M.count r.0, e.0, e.1, prev_next M S p q h m)

  -- two edges that are not the same, either way round, have two new vertices
  mid_ne : (v u v' u' : ℕ) → v < M.count → u ∈ M.ring v → v' < M.count → u' ∈ M.ring v' → (v ≡ v' → u ≡ u' → ⊥) → (v ≡ u' → u ≡ v' → ⊥) → mid M v u ≢ mid M v' u'
  mid_ne v u v' u' h m h' m' d c e = let i = mid_inj v u v' u' h m h' m' e in ⊎_elim (λ s. d s.0 s.1) (λ s. c s.0 s.1) (same_pair v u v' u' i.0 i.1)

  around_apart : (p q : ℕ) → p < M.count → q ∈ M.ring p → Apart (around M p q (next (M.ring p) q) (next (M.ring q) p))
  around_apart p q h m =
      let a : ℕ = next (M.ring p) q in
      let b : ℕ = next (M.ring q) p in
      let fa : Face M S p q a = face_at_lem M S p q h m in
      let g : q < M.count = fa.u_lt in
      let fb : Face M S q p b = face_at_lem M S q p g (S.mutual' p q h m) in
      let d : Apart₄ M S p q a b = apart₄ M S p q h m in
      let pa : a ∈ M.ring p = next_in (M.ring p) q m in
      let qa : a ∈ M.ring q = fa.tri.1.0 in
      let pb : b ∈ M.ring p = fb.tri.1.0 in
      let qb : b ∈ M.ring q = next_in (M.ring q) p fb.tri.0.0 in
      let r₁ = mid_range p a h pa in
      let r₂ = mid_range q a g qa in
      let r₃ = mid_range p b h pb in
      let r₄ = mid_range q b g qb in
      let n₁ : All (λ x. p ≢ x) (mid M p b ∷ mid M q b ∷ q ∷ mid M q a ∷ mid M p a ∷ []) = (omega arith, (omega arith, (d.p_q, (omega arith, (omega arith, tt))))) in
      let n₂ : All (λ x. mid M p b ≢ x) (mid M q b ∷ q ∷ mid M q a ∷ mid M p a ∷ []) = (
        mid_ne p b q b h pb g qb (λ e f. d.p_q e) (λ e f. d.p_b e),
        (
          omega arith,
          (
            mid_ne p b q a h pb g qa (λ e f. d.p_q e) (λ e f. d.p_a e),
            (mid_ne p b p a h pb h pa (λ e f. d.a_b (sym f)) (λ e f. d.p_a e), tt),
          ),
        ),
      ) in
      let n₃ : All (λ x. mid M q b ≢ x) (q ∷ mid M q a ∷ mid M p a ∷ []) =
      (omega arith, (mid_ne q b q a g qb g qa (λ e f. d.a_b (sym f)) (λ e f. d.q_a e), (mid_ne q b p a g qb h pa (λ e f. d.p_q (sym e)) (λ e f. d.q_a e), tt))) in
      let n₄ : All (λ x. q ≢ x) (mid M q a ∷ mid M p a ∷ []) = (omega arith, (omega arith, tt)) in
      let n₅ : All (λ x. mid M q a ≢ x) (mid M p a ∷ []) = (mid_ne q a p a g qa h pa (λ e f. d.p_q (sym e)) (λ e f. d.q_a e), tt) in
      (n₁, (n₂, (n₃, (n₄, (n₅, (tt, tt))))))

  -- ---- the ring of a new vertex, seen from an end of its edge

  View : ℕ → ℕ → Type 0
  View u v =
      let b : ℕ = next (M.ring v) u in
      let l = (refine M).ring (mid M u v) in
      Follows l u (mid M u b) × Follows l (mid M u b) (mid M v b) × Follows l (mid M v b) v

  view : (u v : ℕ) → u < M.count → v ∈ M.ring u → View u v
  unfolding View place_after
  view u v h m =
      ⊎_elim
      (λ l. rw (new_ring_lem u v l.1 h m) (low u v h m))
      (λ l.
      rw (mid_sym u v, new_ring_lem v u (omega (arith, edge_ne M S u v h m)) (edge_lt M S u v h m) (S.mutual' u v h m))
      (high v u (edge_lt M S u v h m) (S.mutual' u v h m)))
      (lt_split u v)
    where
      low : (p q : ℕ) → p < M.count → q ∈ M.ring p
          → let b : ℕ = next (M.ring q) p in let l = around M p q (next (M.ring p) q) b in Follows l p (mid M p b) × Follows l (mid M p b) (mid M q b) × Follows l (mid M q b) q
      low p q h m =
          let l = around M p q (next (M.ring p) q) (next (M.ring q) p) in
          let d = apart_distinct l (around_apart p q h m) in
          ((get_or_in l 0 0 (lit< tt), next_get_or l d 0 (lit< tt)), (get_or_in l 1 0 (lit< tt), next_get_or l d 1 (lit< tt)), (get_or_in l 2 0 (lit< tt), next_get_or l d 2 (lit< tt)))

      high : (p q : ℕ) → p < M.count → q ∈ M.ring p
          → let a : ℕ = next (M.ring p) q in let l = around M p q a (next (M.ring q) p) in Follows l q (mid M q a) × Follows l (mid M q a) (mid M p a) × Follows l (mid M p a) p
      high p q h m =
          let l = around M p q (next (M.ring p) q) (next (M.ring q) p) in
          let d = apart_distinct l (around_apart p q h m) in
          ((get_or_in l 3 0 (lit< tt), next_get_or l d 3 (lit< tt)), (get_or_in l 4 0 (lit< tt), next_get_or l d 4 (lit< tt)), (get_or_in l 5 0 (lit< tt), next_get_or l d 5 (lit< tt)))

  -- ---- the triangles of the refined mesh

  mid_one : (v : ℕ) → v < M.count → (x y : ℕ) → x ∈ M.ring v → y ∈ M.ring v → mid M v x ≡ mid M v y → x ≡ y
  mid_one v h x y m n e = let i = mid_inj v x v y h m h n e in ⊎_elim (λ s. s.1) (λ s. s.1 ∙ s.0) (same_pair v x v y i.0 i.1)

  -- the one at a corner of an old triangle
  corner : (v u w : ℕ) → Face M S v u w → Tri (refine M) v (mid M v u) (mid M v w)
  unfolding View
  corner v u w f =
      let m = f.tri.0.0 in (
        rw (old_ring_lem v f.v_lt) (map_in (mid M v) u (M.ring v) m, next_map (mid M v) u (M.ring v) (mid_one v f.v_lt) m ∙ ap (mid M v) f.tri.0.1),
        rw (mid_sym u v, f.tri.0.1) at (view u v f.u_lt (S.mutual' v u f.v_lt m)).2,
        rw f.tri.2.1 at (view v w f.v_lt (S.mutual' w v f.w_lt f.tri.2.0)).0,
      )

  -- the one in the middle
  centre : (v u w : ℕ) → Face M S v u w → Tri (refine M) (mid M u v) (mid M u w) (mid M v w)
  unfolding View
  centre v u w f = (
    rw f.tri.0.1 at (view u v f.u_lt (S.mutual' v u f.v_lt f.tri.0.0)).1,
    rw (f.tri.1.1, mid_sym w u, mid_sym w v) at (view w u f.w_lt (S.mutual' u w f.u_lt f.tri.1.0)).1,
    rw (f.tri.2.1, mid_sym v u, mid_sym w u) at (view v w f.v_lt (S.mutual' w v f.w_lt f.tri.2.0)).1,
  )

  -- each neighbour in the refined mesh starts a triangle
  Starts : ℕ → ℕ → Type 0
  Starts x y = (z : ℕ) × Tri (refine M) x y z

  spokes : (u v : ℕ) → u < M.count → v ∈ M.ring u
      → let b : ℕ = next (M.ring v) u in Starts (mid M u v) u × Starts (mid M u v) (mid M u b) × Starts (mid M u v) (mid M v b)
  unfolding Starts
  spokes u v h m =
      let b : ℕ = next (M.ring v) u in
      let f : Face M S v u b = face_at_lem M S v u (edge_lt M S u v h m) (S.mutual' u v h m) in (
        (mid M u b, turn (refine M) (mid M u b) (mid M u v) u (turn (refine M) u (mid M u b) (mid M u v) (corner u b v (turned M S f)))),
        (mid M v b, centre v u b f),
        (v, rw (mid_sym v u) at (turn (refine M) v (mid M v u) (mid M v b) (corner v u b f))),
      )

  new_starts : (p q y : ℕ) → p < q → p < M.count → q ∈ M.ring p → y ∈ (refine M).ring (mid M p q) → Starts (mid M p q) y
  new_starts p q y l h m n =
      let s = spokes p q h m in
      let t = rw (mid_sym q p) at (spokes q p (edge_lt M S p q h m) (S.mutual' p q h m)) in
      all_in (Starts (mid M p q)) (around M p q (next (M.ring p) q) (next (M.ring q) p)) (s.0, (s.1, (s.2, (t.0, (t.1, (t.2, tt)))))) y
      (rw (new_ring_lem p q l h m) at n)

  starts : (x y : ℕ) → x < M.count + edges M → y ∈ (refine M).ring x → Starts x y
  unfolding Starts
  starts x y h m = ⊎_elim (λ l. old l.1) (λ l. new l.1) (lt_split x M.count)
    where
      old : x < M.count → Starts x y
      old l =
          let r = in_map (mid M x) y (M.ring x) (rw (old_ring_lem x l) at m) in
          rw r.2 (mid M x (next (M.ring x) r.0), corner x r.0 (next (M.ring x) r.0) (face_at_lem M S x r.0 l r.1))

      new : M.count ≤ x → Starts x y
      new l =
          let e = E.ends M S.proper S.mutual' x l h in
          subst (λ z. y ∈ (refine M).ring z → Starts z y) e.3 (new_starts (low_end M x) (high_end M x) y e.0 (omega arith) e.2) m

  -- ---- soundness

  pub refine_count : (refine M).count ≡ M.count + edges M
  unfolding refine
  refine_count = refl

  -- old valences are kept
  pub old_valence : (v : ℕ) → v < M.count → length ((refine M).ring v) ≡ length (M.ring v)
  old_valence v h = rw (old_ring_lem v h) (length-map (M.ring v) (mid M v))

  -- new ones are 6
  pub new_valence : (x : ℕ) → M.count ≤ x → x < M.count + edges M → length ((refine M).ring x) ≡ 6
  unfolding refine new_ring
  new_valence x l h = rw (lt-ltb x (M.count + edges M) h, le-ltb x M.count l)

  old_proper : (v : ℕ) → v < M.count → Proper (refine M) v
  old_proper v h = record {
    short = rw (old_valence v h) (S.proper v h).short;
    known = λ y m. let r = mids y m in omega (arith, refine_count, r.2, mid_range v r.0 h r.1);
    other = λ m. let r = mids v m in omega (arith, r.2, mid_range v r.0 h r.1);
    distinct = rw (old_ring_lem v h) (distinct_map (mid M v) (M.ring v) (mid_one v h) (S.proper v h).distinct);
  }
    where
      mids : (y : ℕ) → y ∈ (refine M).ring v → (u : ℕ) × (u ∈ M.ring v) × (y ≡ mid M v u)
      mids y m = in_map (mid M v) y (M.ring v) (rw (old_ring_lem v h) at m)

  new_proper : (p q : ℕ) → p < q → p < M.count → q ∈ M.ring p → Proper (refine M) (mid M p q)
  new_proper p q l h m =
      let a : ℕ = next (M.ring p) q in
      let b : ℕ = next (M.ring q) p in
      let fa : Face M S p q a = face_at_lem M S p q h m in
      let g : q < M.count = fa.u_lt in
      let fb : Face M S q p b = face_at_lem M S q p g (S.mutual' p q h m) in
      let d : Apart₄ M S p q a b = apart₄ M S p q h m in
      let pa : a ∈ M.ring p = next_in (M.ring p) q m in
      let qa : a ∈ M.ring q = fa.tri.1.0 in
      let pb : b ∈ M.ring p = fb.tri.1.0 in
      let qb : b ∈ M.ring q = next_in (M.ring q) p fb.tri.0.0 in
      let r = mid_range p q h m in
      let r₁ = mid_range p a h pa in
      let r₂ = mid_range q a g qa in
      let r₃ = mid_range p b h pb in
      let r₄ = mid_range q b g qb in
      let c = refine_count in
      let s : All (λ y. y < (refine M).count) (around M p q a b) = (omega arith, (omega arith, (omega arith, (omega arith, (omega arith, (omega arith, tt)))))) in
      let o : All (λ y. mid M p q ≢ y) (around M p q a b) = (
        omega arith,
        (
          mid_ne p q p b h m h pb (λ e f. d.q_b f) (λ e f. d.p_b e),
          (
            mid_ne p q q b h m g qb (λ e f. d.p_q e) (λ e f. d.p_b e),
            (
              omega arith,
              (mid_ne p q q a h m g qa (λ e f. d.p_q e) (λ e f. d.p_a e), (mid_ne p q p a h m h pa (λ e f. d.q_a f) (λ e f. d.p_a e), tt)),
            ),
          ),
        ),
      ) in
      record {
        short = rw (new_ring_lem p q l h m) (lit≤ tt);
        known = λ y n. all_in (λ z. z < (refine M).count) (around M p q a b) s y (rw (new_ring_lem p q l h m) at n);
        other = λ n. all_in (λ z. mid M p q ≢ z) (around M p q a b) o (mid M p q) (rw (new_ring_lem p q l h m) at n) refl;
        distinct = rw (new_ring_lem p q l h m) (apart_distinct (around M p q a b) (around_apart p q h m));
      }

  refine_proper : (x : ℕ) → x < M.count + edges M → Proper (refine M) x
  refine_proper x h =
      ⊎_elim
      (λ l. old_proper x l.1)
      (λ l.
      let e = E.ends M S.proper S.mutual' x l.1 h in
      subst (Proper (refine M)) e.3 (new_proper (low_end M x) (high_end M x) e.0 (omega arith) e.2))
      (lt_split x M.count)

  refine_three : (x : ℕ) → x < M.count + edges M → 3 ≤ length ((refine M).ring x)
  refine_three x h =
      ⊎_elim (λ l. rw (old_valence x l.1) (S.three x l.1)) (λ l. rw (new_valence x l.1 h) (lit≤ tt)) (lt_split x M.count)

  pub refine_sound : Sound (refine M)
  unfolding refine Starts
  refine_sound = record {
    proper = refine_proper;
    three = refine_three;
    mutual' = λ x y h m. let s = starts x y h m in subst (λ t. t ∈ (refine M).ring y) s.1.1.1 (next_in ((refine M).ring y) s.0 s.1.1.0);
    face = λ x y h m. let s = starts x y h m in rw s.1.0.1 (s.1.2, s.1.1);
  }

  -- ---- counts: V + E, 4E
  pub refine_edges : edges (refine M) ≡ 4 * edges M
  unfolding valences
  refine_edges =
      let n : ℕ = M.count in
      let R : Mesh = refine M in
      let whole : sum (λ v. length (R.ring v)) R.count ≡ 2 * edges R = H.handshake R refine_sound.proper refine_sound.mutual' in
      let base : sum (λ v. length (M.ring v)) n ≡ 2 * edges M = H.handshake M S.proper S.mutual' in
      let cut : sum (λ v. length (R.ring v)) R.count ≡ sum (λ v. length (R.ring v)) n + sum (λ i. length (R.ring (n + i))) (edges M) =
      ap (sum (λ v. length (R.ring v))) refine_count ∙ sum_more (λ v. length (R.ring v)) n (edges M) in
      let old : sum (λ v. length (R.ring v)) n ≡ sum (λ v. length (M.ring v)) n = sum_same _ _ n old_valence in
      let new : sum (λ i. length (R.ring (n + i))) (edges M) ≡ 6 * edges M = sum_const _ 6 (edges M) (λ i h. new_valence (n + i) (omega arith) (omega arith)) in
      omega arith
