-- The faces at one vertex: where they close into one ring, every one of them stands in it. Assumes nothing.
use mathlib.Core.Path.{◌≡◌, refl, sym, ap, ◌∙◌, subst}
use mathlib.Core.Bool.{Bool, true, false, not, ◌||◌}
use mathlib.Core.List.{List}
use mathlib.Core.Logic.{⊎_elim, ◌≢◌}
use Prim.Native.Nat.{ℕ, zero, suc, ◌+◌, ◌-◌, ◌≤◌, ◌<◌}
use native.Mathlib.Nat.{eq-or-lt_of_le}
use native.Mathlib.Omega.{arith}
use lib.Dec.{ltb}
use lib.ListN.{length}
use borrow.Author.Tests.{ne_eqb, eqb-true, eqb-false, le-ltb}
use Rattle.mesh.specs.Search.{bit, sum, first, some}
use Rattle.mesh.specs.Ring.{times, ◌∈◌, Distinct, next, place, Follows}
use Rattle.mesh.proofs.Lists.{lt_split, sum_same, sum_swap, sum_times, sum_bounded}
use Rattle.mesh.proofs.Rings.{place_lt, get_or_place}
use Rattle.mesh.proofs.RingsGoRound.{prev_is_what_it_follows}
use Rattle.mesh.proofs.First.{first_at, first_le, first_clear, some_at, none_some, true_not_false, by_cases, or_comm}
use Rattle.off_rings.specs.Faces.{Face, corner, before, behind, has_pair, steps, trail, pair_in, pairs, faces_at, after, least, face_ring}
use Rattle.off_rings.specs.Faces.{back_in, closed, doubled, twisted}
use Rattle.off_rings.proofs.Sums.{sum_equal, sum_has, sum_two, sum_some, sum_one, at_most_one}
use Rattle.off_rings.proofs.Pairs.{Fine, Corner, round_of, pair_of, of_pair, before_lt, before_ne, pairs_to}
use Rattle.off_rings.proofs.Trails.{Loop, steps_more, steps_suc, trail_length, trail_at, trail_distinct, trail_next}

module _ (n m : ℕ) (face : ℕ → Face) (fine : (i : ℕ) → i < m → Fine n (face i)) where
  -- each face at v has one pair that ends in v
  pub pairs_faces : (v : ℕ) → sum (λ x. pairs n m face x v) n ≡ faces_at n m face v
  unfolding pairs faces_at
  pairs_faces v =
      sum_swap (λ x i. bit (has_pair x v (face i))) n m ∙ sum_same _ _ m (λ i h. pairs_to n v (face i) (fine i h))

  -- ---- one step

  pub after_face_lem : (v x : ℕ) → some (pair_in n m face x v) m ≡ true
      → (first (pair_in n m face x v) m < m)
      × ((has_pair x v (face (first (pair_in n m face x v) m)) ≡ true)
      × (after n m face v x ≡ behind v (face (first (pair_in n m face x v) m))))
  unfolding after
  after_face_lem v x e = let s = some_at (pair_in n m face x v) m e in (s.0, (s.1, rw e))

  after_none : (v x : ℕ) → some (pair_in n m face x v) m ≡ false → after n m face v x ≡ n
  unfolding after
  after_none v x e = rw e

  pub pairs_some : (x v : ℕ) → some (pair_in n m face x v) m ≡ true → 0 < pairs n m face x v
  unfolding pairs
  pairs_some x v e = let s = some_at (pair_in n m face x v) m e in sum_has (pair_in n m face x v) m (first (pair_in n m face x v) m) s.0 s.1

  -- n is no corner, so that one never comes on from there
  no_pair : (v : ℕ) → some (pair_in n m face n v) m ≡ false
  no_pair v =
      none_some (pair_in n m face n v) m (λ i h. by_cases _ (λ e.
      let p = of_pair n v (face i) e in
      absurd (omega (arith, before_lt n v (face i) (fine i h) p.0, p.1))))

  stuck : (v k : ℕ) → steps (after n m face v) n k ≡ n
  unfolding steps
  stuck v zero = refl
  stuck v (suc k) = ap (λ y. steps (after n m face v) y k) (after_none v n (no_pair v)) ∙ stuck v k

  -- ---- the ring

  pub least_lt : (v : ℕ) → 0 < faces_at n m face v → least n m face v < n
  unfolding least faces_at
  least_lt v h =
      let s = some_at (λ i. corner v (face i)) m (sum_some (λ i. corner v (face i)) m h) in
      let i : ℕ = first (λ i. corner v (face i)) m in
      let x : ℕ = before v (face i) in
      let x< : x < n = before_lt n v (face i) (fine i s.0) s.1 in
      let r = round_of n v (face i) (fine i s.0) s.1 in
      let has : some (pair_in n m face x v) m ≡ true =
      sum_some (pair_in n m face x v) m (sum_has (pair_in n m face x v) m i s.0 (pair_of x v (face i) r.at_v)) in
      ⊎_elim
      (λ q. absurd (true_not_false has ((first_clear (λ y. some (pair_in n m face y v) m) n).below x (omega arith))))
      (λ q. q)
      (eq-or-lt_of_le (first_le (λ y. some (pair_in n m face y v) m) n))

  module _ (v : ℕ) (c : closed n m face v ≡ true) where
    ring_loop : 0 < faces_at n m face v → Loop (after n m face v) (least n m face v) (faces_at n m face v)
    unfolding closed back_in
    ring_loop h =
        let N : ℕ = faces_at n m face v in
        let k : ℕ = first (back_in n m face v) N in
        let e : suc k ≡ N = eqb-true _ _ (rw (ne_eqb N 0 (omega arith)) at c) in
        record {
          back = ap (steps (after n m face v) (least n m face v)) (sym e) ∙ eqb-true _ _ (first_at (back_in n m face v) N (omega arith));
          first = λ j a b.
              let i : ℕ = j - 1 in
              let q : suc i ≡ j = omega arith in
              λ g. eqb-false _ _ ((first_clear (back_in n m face v) N).below i (omega arith)) (ap (steps (after n m face v) (least n m face v)) q ∙ g);
        }

    pub ring_length : length (face_ring n m face v) ≡ faces_at n m face v
    unfolding face_ring
    ring_length = trail_length (after n m face v) (least n m face v) (faces_at n m face v)

    ring_some : (x : ℕ) → x ∈ face_ring n m face v → 0 < faces_at n m face v
    ring_some x k = omega (arith, place_lt x (face_ring n m face v) k, ring_length)

    -- every entry is the beginning of a pair that ends in v
    pub entry_pair : (x : ℕ) → x ∈ face_ring n m face v → some (pair_in n m face x v) m ≡ true
    unfolding face_ring
    entry_pair x k =
        let N : ℕ = faces_at n m face v in
        let f : ℕ → ℕ = after n m face v in
        let a : ℕ = least n m face v in
        let l : List ℕ = trail f a N in
        let N> : 0 < N = ring_some x k in
        let i : ℕ = place x l in
        let i< : i < N = omega (arith, place_lt x l k, trail_length f a N) in
        let at : steps f a i ≡ x = sym (trail_at f a N i i<) ∙ get_or_place x l 0 k in
        go (some (pair_in n m face x v) m) refl i i< at N>
      where
        go : (b : Bool) → some (pair_in n m face x v) m ≡ b → (i : ℕ) → i < faces_at n m face v
            → steps (after n m face v) (least n m face v) i ≡ x → 0 < faces_at n m face v → some (pair_in n m face x v) m ≡ true
        go true e i i< at N> = e
        go false e i i< at N> =
            let f : ℕ → ℕ = after n m face v in
            let a : ℕ = least n m face v in
            let N : ℕ = faces_at n m face v in
            let j : ℕ = N - suc i in
            let q : suc i + j ≡ N = omega arith in
            let z : steps f a N ≡ n =
            ap (steps f a) (sym q) ∙ steps_more f a (suc i) j ∙ ap (λ y. steps f y j) (steps_suc f a i ∙ ap f at ∙ after_none v x e) ∙ stuck v j in
            absurd (omega (arith, z, (ring_loop N>).back, least_lt v N>))

    pub ring_distinct : Distinct (face_ring n m face v)
    unfolding face_ring
    ring_distinct =
        ⊎_elim
        (λ h. trail_distinct (after n m face v) (least n m face v) (faces_at n m face v) (ring_loop h.1))
        (λ h x.
        ⊎_elim
        (λ k. absurd (omega (arith, ring_some x k.1)))
        (λ k. omega arith)
        (lt_split 0 (times x (trail (after n m face v) (least n m face v) (faces_at n m face v)))))
        (lt_split 0 (faces_at n m face v))

    pub ring_next : (x : ℕ) → x ∈ face_ring n m face v → next (face_ring n m face v) x ≡ after n m face v x
    unfolding face_ring
    ring_next x k = trail_next (after n m face v) (least n m face v) (faces_at n m face v) (ring_loop (ring_some x k)) x k

    -- an entry is a vertex and not v
    pub entry_lt : (x : ℕ) → x ∈ face_ring n m face v → (x < n) × (x ≢ v)
    entry_lt x k =
        let s = after_face_lem v x (entry_pair x k) in
        let f : Face = face (first (pair_in n m face x v) m) in
        let p = of_pair x v f s.1.0 in
        (omega (arith, before_lt n v f (fine _ s.0) p.0, p.1), λ e. before_ne n v f (fine _ s.0) p.0 (sym p.1 ∙ e))

    -- the ring has each beginning of a pair as often as there are such pairs: once
    pub ring_pairs : (x : ℕ) → x < n → times x (face_ring n m face v) ≡ pairs n m face x v
    ring_pairs =
        sum_equal (λ x. times x (face_ring n m face v)) (λ x. pairs n m face x v) n
        (λ x h. ⊎_elim (λ k. at_most x k.1) (λ k. omega arith) (lt_split 0 (times x (face_ring n m face v))))
        (sum_times n (face_ring n m face v) (λ x k. (entry_lt x k).0) ∙ ring_length ∙ sym (pairs_faces v))
      where
        at_most : (x : ℕ) → x ∈ face_ring n m face v → times x (face_ring n m face v) ≤ pairs n m face x v
        at_most x k = omega (arith, ring_distinct x, pairs_some x v (entry_pair x k))

    -- there are at most as many faces as vertices
    pub closed_few : faces_at n m face v ≤ n
    closed_few =
        let one = sum_bounded (λ x. times x (face_ring n m face v)) 1 n (λ x h. ring_distinct x) in
        omega (arith, sum_times n (face_ring n m face v) (λ x k. (entry_lt x k).0), ring_length)

    -- ---- every face at v stands in the ring

    pub on_ring : (i : ℕ) → i < m → corner v (face i) ≡ true → Follows (face_ring n m face v) (before v (face i)) (behind v (face i))
    unfolding pairs
    on_ring i h e =
        let f : Face = face i in
        let x : ℕ = before v f in
        let pair : has_pair x v f ≡ true = pair_of x v f (round_of n v f (fine i h) e).at_v in
        let one : times x (face_ring n m face v) ≡ sum (λ j. bit (pair_in n m face x v j)) m = ring_pairs x (before_lt n v f (fine i h) e) in
        let there : x ∈ face_ring n m face v = omega (arith, sum_has (pair_in n m face x v) m i h pair) in
        let it : first (pair_in n m face x v) m ≡ i = sum_one (pair_in n m face x v) m i (omega (arith, ring_distinct x)) h pair in
        (there, ring_next x there ∙ (after_face_lem v x (entry_pair x there)).1.1 ∙ ap (λ j. behind v (face j)) it)

    -- and each entry stands there by a face
    pub entry_face : (x : ℕ) → x ∈ face_ring n m face v
        → (i : ℕ) × ((i < m) × ((corner v (face i) ≡ true) × ((x ≡ before v (face i)) × (next (face_ring n m face v) x ≡ behind v (face i)))))
    entry_face x k =
        let s = after_face_lem v x (entry_pair x k) in
        let p = of_pair x v (face (first (pair_in n m face x v) m)) s.1.0 in
        (first (pair_in n m face x v) m, (s.0, (p.0, (p.1, ring_next x k ∙ s.1.1))))

    -- v begins no ordered pair of two faces
    pub begins_once : (u : ℕ) → pairs n m face v u ≤ 1
    unfolding pairs
    begins_once u = at_most_one (pair_in n m face v u) m (λ i j h g d e. absurd (apart i j h g d e))
      where
        at : (i : ℕ) → i < m → pair_in n m face v u i ≡ true → Corner v (face i) (before v (face i)) u
        at i h e =
            let p = of_pair v u (face i) e in
            let r = round_of n u (face i) (fine i h) p.0 in
            let c : Corner v (face i) (behind u (face i)) u = subst (λ y. Corner y (face i) (behind u (face i)) u) (sym p.1) r.at_x in
            record { is = c.is; from = refl; to = c.to }

        two : (x : ℕ) → x ∈ face_ring n m face v → sum (λ k. bit (pair_in n m face x v k)) m ≤ 1
        two x k = omega (arith, ring_pairs x (entry_lt x k).0, ring_distinct x)

        apart : (i j : ℕ) → i < j → j < m → pair_in n m face v u i ≡ true → pair_in n m face v u j ≡ true → ⊥
        apart i j h g d e =
            let a = on_ring i (omega arith) (at i (omega arith) d).is in
            let b = on_ring j g (at j g e).is in
            let x : ℕ = before v (face i) in
            let same : before v (face j) ≡ x =
            sym (prev_is_what_it_follows (face_ring n m face v) ring_distinct _ u b.0 (b.1 ∙ (at j g e).to))
            ∙ prev_is_what_it_follows (face_ring n m face v) ring_distinct _ u a.0 (a.1 ∙ (at i (omega arith) d).to) in
            let p : has_pair x v (face i) ≡ true = pair_of x v (face i) (at i (omega arith) d) in
            let q : has_pair x v (face j) ≡ true = subst (λ y. has_pair y v (face j) ≡ true) same (pair_of _ v (face j) (at j g e)) in
            omega (arith, sum_two (pair_in n m face x v) m i j h g p q, two x a.0)

    not_doubled : doubled n m face v ≡ false
    unfolding doubled
    not_doubled = none_some (λ u. ltb 1 (pairs n m face v u)) n (λ u h. le-ltb 1 (pairs n m face v u) (begins_once u))

  -- reason 21 is that the faces do not close; a pair of two faces is one way
  pub twisted_open : (v : ℕ) → twisted n m face v ≡ not (closed n m face v)
  unfolding twisted
  twisted_open v = go (closed n m face v) refl
    where
      go : (b : Bool) → closed n m face v ≡ b → doubled n m face v || not (closed n m face v) ≡ not (closed n m face v)
      go true e = rw (e, not_doubled v e)
      go false e = rw e (or_comm (doubled n m face v) true)
