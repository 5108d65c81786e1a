-- An edge split in a sound mesh: the rings after it, their lengths, and that the mesh is sound.
-- Assumes nothing.
use mathlib.Core.Path.{◌≡◌, refl, sym, ap}
use mathlib.Core.Bool.{true, false}
use mathlib.Core.List.{List, [], ◌∷◌}
use mathlib.Core.Logic.{inl, inr, ◌≢◌}
use Prim.Native.Nat.{ℕ, suc, ◌+◌, ◌≤◌, ◌<◌}
use native.Mathlib.Nat.{not-suc-le-zero}
use native.Mathlib.Omega.{arith}
use lib.Dec.{eqb, ltb, lit<, lit≤}
use lib.ListN.{length}
use borrow.Author.Tests.{lt-ltb, eq-eqb, ne_eqb}
use Rattle.mesh.specs.Limits.{most_valence}
use Rattle.mesh.specs.Ring.{times, ◌∈◌, Distinct, place_after, Follows}
use Rattle.mesh.specs.Edits.{replace, insert_after}
use Rattle.mesh.specs.Mesh.{Mesh, Sound, valences}
use Rattle.mesh.proofs.Rings.{all_in, Apart, apart_distinct, get_or_in, next_get_or}
use Rattle.reshape.specs.Rows.{rewritten}
use Rattle.reshape.specs.Reshape.{edge_rows_of}
use Rattle.reshape.proofs.Triangles.{Triangle, triangle, Fits, at_each, sound_after}
use Rattle.reshape.proofs.EditedRings as E
use Rattle.reshape.proofs.EditCounts.{sum_moved}
use Rattle.reshape.proofs.Kites.{Kite, both_at, only_p, only_q, only_a, only_b, nowhere_else}

-- the four triangles at x
abbrev four_at : ℕ → ℕ → ℕ → ℕ → ℕ → List Triangle
four_at p q a b x = triangle p x a ∷ triangle p b x ∷ triangle q a x ∷ triangle q x b ∷ []

module _ (M : Mesh) (S : Sound M) {p q a b : ℕ} (k : Kite M S p q a b) where
  -- the mesh split
  abbrev pub N : Mesh
  N = rewritten M (suc M.count) (edge_rows_of M.ring p q a b M.count)

  p_lt : p < M.count
  p_lt = k.fa.v_lt

  q_lt : q < M.count
  q_lt = k.fa.u_lt

  a_lt : a < M.count
  a_lt = k.fa.w_lt

  b_lt : b < M.count
  b_lt = k.fb.w_lt

  unknown : (v : ℕ) → v < M.count → M.count ∈ M.ring v → ⊥
  unknown = E.new_absent M S

  -- ---- the rings

  pub at_p : N.ring p ≡ replace q M.count (M.ring p)
  unfolding rewritten
  at_p = let h = p_lt in rw (lt-ltb p (suc M.count) (omega arith), eq-eqb p p refl)

  pub at_q : N.ring q ≡ replace p M.count (M.ring q)
  unfolding rewritten
  at_q = let h = q_lt in rw (lt-ltb q (suc M.count) (omega arith), ne_eqb q p (λ e. k.p_q (sym e)), eq-eqb q q refl)

  pub at_a : N.ring a ≡ insert_after p M.count (M.ring a)
  unfolding rewritten
  at_a =
      let h = a_lt in
      rw (lt-ltb a (suc M.count) (omega arith), ne_eqb a p (λ e. k.p_a (sym e)), ne_eqb a q (λ e. k.q_a (sym e)), eq-eqb a a refl)

  pub at_b : N.ring b ≡ insert_after q M.count (M.ring b)
  unfolding rewritten
  at_b =
      let h = b_lt in
      let below : ltb b (suc M.count) ≡ true = lt-ltb b (suc M.count) (omega arith) in
      rw (below, ne_eqb b p (λ e. k.p_b (sym e)), ne_eqb b q (λ e. k.q_b (sym e)), ne_eqb b a (λ e. k.a_b (sym e)), eq-eqb b b refl)

  pub at_x : N.ring M.count ≡ p ∷ b ∷ q ∷ a ∷ []
  unfolding rewritten
  at_x =
      let x : ℕ = M.count in
      let other : (v : ℕ) → v < x → eqb x v ≡ false = λ v h. ne_eqb x v (omega arith) in
      rw (lt-ltb x (suc x) (omega arith), other p p_lt, other q q_lt, other a a_lt, other b b_lt, eq-eqb x x refl)

  pub at_other : (v : ℕ) → v < M.count → v ≢ p → v ≢ q → v ≢ a → v ≢ b → N.ring v ≡ M.ring v
  unfolding rewritten
  at_other v h vp vq va vb =
      let old : eqb v M.count ≡ false = ne_eqb v M.count (omega arith) in
      rw (lt-ltb v (suc M.count) (omega arith), ne_eqb v p vp, ne_eqb v q vq, ne_eqb v a va, ne_eqb v b vb, old)

  -- ---- each ring fits, where a and b have room

  -- the two triangles at the edge go
  abbrev Gone : List Triangle
  Gone = both_at p q a b

  -- the four at the new vertex come
  abbrev Fresh : List Triangle
  Fresh = four_at p q a b M.count

  grows : M.count ≤ N.count
  unfolding rewritten
  grows = omega arith

  new_lt : M.count < N.count
  unfolding rewritten
  new_lt = omega arith

  new_ne : (v : ℕ) → v < M.count → M.count ≢ v
  new_ne v h = omega arith

  p_follows : Follows (N.ring p) b M.count × Follows (N.ring p) M.count a
  p_follows =
      E.replace_follows M S N Gone Fresh grows p p_lt b q M.count a at_p k.fa.tri.0 k.fb.tri.1
      (λ e. k.q_b (sym e)) (λ e. k.q_a (sym e)) (unknown p p_lt)

  q_follows : Follows (N.ring q) a M.count × Follows (N.ring q) M.count b
  q_follows =
      E.replace_follows M S N Gone Fresh grows q q_lt a p M.count b at_q k.fb.tri.0 k.fa.tri.1
      (λ e. k.p_a (sym e)) (λ e. k.p_b (sym e)) (unknown q q_lt)

  a_follows : Follows (N.ring a) p M.count × Follows (N.ring a) M.count q
  a_follows = E.insert_follows M S N Gone Fresh grows a a_lt p M.count q at_a k.fa.tri.2 (unknown a a_lt)

  b_follows : Follows (N.ring b) q M.count × Follows (N.ring b) M.count p
  b_follows = E.insert_follows M S N Gone Fresh grows b b_lt q M.count p at_b k.fb.tri.2 (unknown b b_lt)

  around : List ℕ
  around = p ∷ b ∷ q ∷ a ∷ []

  around_apart : Apart around
  unfolding around
  around_apart = (
    (k.p_b, (k.p_q, (k.p_a, tt))),
    (((λ e. k.q_b (sym e)), ((λ e. k.a_b (sym e)), tt)), ((k.q_a, tt), (tt, tt))),
  )

  around_distinct : Distinct around
  around_distinct = apart_distinct around around_apart

  x_follows : let r = N.ring M.count in Follows r p b × Follows r b q × Follows r q a × Follows r a p
  unfolding around place_after
  x_follows =
      rw at_x (
        (get_or_in around 0 0 (lit< tt), next_get_or around around_distinct 0 (lit< tt)),
        (get_or_in around 1 0 (lit< tt), next_get_or around around_distinct 1 (lit< tt)),
        (get_or_in around 2 0 (lit< tt), next_get_or around around_distinct 2 (lit< tt)),
        (get_or_in around 3 0 (lit< tt), next_get_or around around_distinct 3 (lit< tt)),
      )

  p_fits : Fits M S N Gone Fresh p
  p_fits =
      E.replace_fits M S N Gone Fresh grows p p_lt b q M.count a at_p k.fa.tri.0 k.fb.tri.1
      (λ e. k.q_b (sym e)) (λ e. k.q_a (sym e)) (unknown p p_lt)
      (new_ne p p_lt) new_lt
      (inr (inl (inl (refl, refl, refl))))
      (inl (inl (refl, refl, refl)))
      (inl (inl (refl, refl, refl)))
      (inr (inl (inr (inl (refl, refl, refl)))))
      (only_p M S k)

  q_fits : Fits M S N Gone Fresh q
  q_fits =
      E.replace_fits M S N Gone Fresh grows q q_lt a p M.count b at_q k.fb.tri.0 k.fa.tri.1
      (λ e. k.p_a (sym e)) (λ e. k.p_b (sym e)) (unknown q q_lt)
      (new_ne q q_lt) new_lt
      (inr (inr (inl (inl (refl, refl, refl)))))
      (inr (inr (inr (inl (inl (refl, refl, refl))))))
      (inr (inl (inl (refl, refl, refl))))
      (inl (inr (inl (refl, refl, refl))))
      (only_q M S k)

  x_fits : Fits M S N Gone Fresh M.count
  unfolding around
  x_fits =
      E.new_fits M S N Gone Fresh around at_x new_lt around_apart (p_lt, (b_lt, (q_lt, (a_lt, tt)))) (lit≤ tt) (lit≤ tt) (
        (b, inr (inl (inr (inr (refl, refl, refl))))),
        (
          (q, inr (inr (inr (inl (inr (inl (refl, refl, refl))))))),
          ((a, inr (inr (inl (inr (inr (refl, refl, refl)))))), ((p, inl (inr (inl (refl, refl, refl)))), tt)),
        ),
      )

  module _ (room-a : length (M.ring a) < most_valence) (room-b : length (M.ring b) < most_valence) where
    a_fits : Fits M S N Gone Fresh a
    a_fits =
        E.insert_fits M S N Gone Fresh grows a a_lt p M.count q at_a k.fa.tri.2 (unknown a a_lt) (new_ne a a_lt) new_lt room-a
        (inl (inr (inr (refl, refl, refl))))
        (inr (inr (inl (inr (inl (refl, refl, refl))))))
        (inl (inr (inr (refl, refl, refl))))
        (only_a M S k)

    b_fits : Fits M S N Gone Fresh b
    b_fits =
        E.insert_fits M S N Gone Fresh grows b b_lt q M.count p at_b k.fb.tri.2 (unknown b b_lt) (new_ne b b_lt) new_lt room-b
        (inr (inr (inr (inl (inr (inr (refl, refl, refl)))))))
        (inr (inl (inr (inl (refl, refl, refl)))))
        (inr (inl (inr (inr (refl, refl, refl)))))
        (only_b M S k)

    all_fit : (v : ℕ) → v < N.count → Fits M S N Gone Fresh v
    unfolding rewritten
    all_fit v h =
        at_each (Fits M S N Gone Fresh) (p ∷ q ∷ a ∷ b ∷ M.count ∷ []) (p_fits, (q_fits, (a_fits, (b_fits, (x_fits, tt))))) v
        (λ o.
        let vx : v ≢ M.count = o.1.1.1.1.0 in
        E.same_fits M S N Gone Fresh grows v (omega arith) (at_other v (omega arith) o.0 o.1.0 o.1.1.0 o.1.1.1.0)
        (λ u w. nowhere_else M S k v u w o.0 o.1.0 o.1.1.0 o.1.1.1.0))

    pub edge_split_sound : Sound N
    edge_split_sound =
        sound_after M S N Gone Fresh grows all_fit (
          (p_follows.1, x_follows.3, a_follows.0),
          ((p_follows.0, b_follows.1, x_follows.0), ((q_follows.0, a_follows.1, x_follows.2), ((q_follows.1, x_follows.1, b_follows.0), tt))),
        )

  -- ---- the sum of valences: a and b gain an entry, and x has four

  valence_after : (v : ℕ) → v < M.count → length (N.ring v) + times v [] ≡ length (M.ring v) + times v (a ∷ b ∷ [])
  valence_after v h =
      at_each (λ y. y < M.count → length (N.ring y) + times y [] ≡ length (M.ring y) + times y (a ∷ b ∷ [])) (p ∷ q ∷ a ∷ b ∷ []) (
        (λ g. rw (ne_eqb p a k.p_a, ne_eqb p b k.p_b) (omega (arith, long_p))),
        (
          (λ g. rw (ne_eqb q a k.q_a, ne_eqb q b k.q_b) (omega (arith, long_q))),
          (
            (λ g. rw (eq-eqb a a refl, ne_eqb a b k.a_b) (omega (arith, long_a))),
            ((λ g. rw (ne_eqb b a (λ e. k.a_b (sym e)), eq-eqb b b refl) (omega (arith, long_b))), tt),
          ),
        ),
      )
      v
      (λ o g.
      rw (ne_eqb v a o.1.1.0, ne_eqb v b o.1.1.1.0)
      (omega (arith, ap length (at_other v g o.0 o.1.0 o.1.1.0 o.1.1.1.0))))
      h
    where
      long_p : length (N.ring p) ≡ length (M.ring p)
      long_p =
          E.replace_long M S N Gone Fresh grows p p_lt b q M.count a at_p k.fa.tri.0 k.fb.tri.1
          (λ e. k.q_b (sym e)) (λ e. k.q_a (sym e)) (unknown p p_lt)

      long_q : length (N.ring q) ≡ length (M.ring q)
      long_q =
          E.replace_long M S N Gone Fresh grows q q_lt a p M.count b at_q k.fb.tri.0 k.fa.tri.1
          (λ e. k.p_a (sym e)) (λ e. k.p_b (sym e)) (unknown q q_lt)

      long_a : length (N.ring a) ≡ suc (length (M.ring a))
      long_a = E.insert_long M S N Gone Fresh grows a a_lt p M.count q at_a k.fa.tri.2 (unknown a a_lt)

      long_b : length (N.ring b) ≡ suc (length (M.ring b))
      long_b = E.insert_long M S N Gone Fresh grows b b_lt q M.count p at_b k.fb.tri.2 (unknown b b_lt)

  pub edge_split_sum : valences N ≡ valences M + 6
  unfolding valences rewritten
  edge_split_sum =
      let s =
      sum_moved (λ v. length (N.ring v)) (λ v. length (M.ring v)) M.count [] (a ∷ b ∷ [])
      (λ y m. absurd (not-suc-le-zero m))
      (all_in (λ y. y < M.count) (a ∷ b ∷ []) (a_lt, (b_lt, tt)))
      valence_after in
      let l : length (N.ring M.count) ≡ 4 = ap length at_x in
      omega arith
