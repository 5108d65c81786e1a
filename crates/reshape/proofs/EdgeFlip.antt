-- An edge flipped in a sound mesh: the rings after it, and that the mesh is sound.
-- Assumes nothing.
use mathlib.Core.Path.{◌≡◌, refl, sym, ap}
use mathlib.Core.List.{List, [], ◌∷◌}
use mathlib.Core.Logic.{inl, inr, ◌≢◌}
use Prim.Native.Nat.{ℕ, suc, ◌+◌, ◌≤◌, ◌<◌}
use native.Mathlib.Omega.{arith}
use lib.ListN.{length}
use borrow.Author.Tests.{lt-ltb, eq-eqb, ne_eqb}
use Rattle.mesh.specs.Limits.{least_valence, most_valence}
use Rattle.mesh.specs.Ring.{times, ◌∈◌, Follows}
use Rattle.mesh.specs.Edits.{erase, insert_after}
use Rattle.mesh.specs.Mesh.{Mesh, Sound, valences}
use Rattle.mesh.proofs.Rings.{all_in}
use Rattle.reshape.specs.Rows.{rewritten}
use Rattle.reshape.specs.Reshape.{flip_rows_of}
use Rattle.reshape.proofs.Triangles.{Triangle, triangle, Fits, at_each, sound_after}
use Rattle.reshape.proofs.EditedRings as E
use Rattle.reshape.proofs.EditCounts.{sum_moved}
use Rattle.reshape.proofs.Kites.{Kite, both_at, only_p, only_q, only_a, only_b, nowhere_else}

module _ (M : Mesh) (S : Sound M) {p q a b : ℕ} (k : Kite M S p q a b) where
  -- the mesh flipped
  abbrev pub N : Mesh
  N = rewritten M M.count (flip_rows_of M.ring p q a b)

  p_lt : p < M.count
  p_lt = k.fa.v_lt

  q_lt : q < M.count
  q_lt = k.fa.u_lt

  a_lt : a < M.count
  a_lt = k.fa.w_lt

  b_lt : b < M.count
  b_lt = k.fb.w_lt

  -- ---- the rings

  pub at_p : N.ring p ≡ erase q (M.ring p)
  unfolding rewritten
  at_p = rw (lt-ltb p M.count p_lt, eq-eqb p p refl)

  pub at_q : N.ring q ≡ erase p (M.ring q)
  unfolding rewritten
  at_q = rw (lt-ltb q M.count q_lt, ne_eqb q p (λ e. k.p_q (sym e)), eq-eqb q q refl)

  pub at_a : N.ring a ≡ insert_after p b (M.ring a)
  unfolding rewritten
  at_a = rw (lt-ltb a M.count a_lt, ne_eqb a p (λ e. k.p_a (sym e)), ne_eqb a q (λ e. k.q_a (sym e)), eq-eqb a a refl)

  pub at_b : N.ring b ≡ insert_after q a (M.ring b)
  unfolding rewritten
  at_b =
      rw (lt-ltb b M.count b_lt, ne_eqb b p (λ e. k.p_b (sym e)), ne_eqb b q (λ e. k.q_b (sym e)), ne_eqb b a (λ e. k.a_b (sym e)), eq-eqb b b refl)

  pub at_other : (v : ℕ) → v < M.count → v ≢ p → v ≢ q → v ≢ a → v ≢ b → N.ring v ≡ M.ring v
  unfolding rewritten
  at_other v h vp vq va vb = rw (lt-ltb v M.count h, ne_eqb v p vp, ne_eqb v q vq, ne_eqb v a va, ne_eqb v b vb)

  -- ---- each ring fits

  -- the two triangles at the edge go
  abbrev Gone : List Triangle
  Gone = both_at p q a b

  -- two at the edge a, b come
  abbrev Fresh : List Triangle
  Fresh = triangle p b a ∷ triangle q a b ∷ []

  pub same_count : N.count ≡ M.count
  unfolding rewritten
  same_count = refl

  grows : M.count ≤ N.count
  grows = omega (arith, same_count)

  p_follows : Follows (N.ring p) b a
  p_follows = E.erase_follows M S N Gone Fresh grows p p_lt b q a at_p k.fa.tri.0 k.fb.tri.1 (λ e. k.q_b (sym e))

  q_follows : Follows (N.ring q) a b
  q_follows = E.erase_follows M S N Gone Fresh grows q q_lt a p b at_q k.fb.tri.0 k.fa.tri.1 (λ e. k.p_a (sym e))

  module _ (long_p : least_valence < length (M.ring p)) (long_q : least_valence < length (M.ring q)) where
    p_fits : Fits M S N Gone Fresh p
    p_fits =
        E.erase_fits M S N Gone Fresh grows p p_lt b q a at_p k.fa.tri.0 k.fb.tri.1 (λ e. k.q_b (sym e)) long_p
        (inl (inl (refl, refl, refl)))
        (inl (inl (refl, refl, refl)))
        (inr (inl (inr (inl (refl, refl, refl)))))
        (only_p M S k)

    q_fits : Fits M S N Gone Fresh q
    q_fits =
        E.erase_fits M S N Gone Fresh grows q q_lt a p b at_q k.fb.tri.0 k.fa.tri.1 (λ e. k.p_a (sym e)) long_q
        (inr (inl (inl (refl, refl, refl))))
        (inr (inl (inl (refl, refl, refl))))
        (inl (inr (inl (refl, refl, refl))))
        (only_q M S k)

    module _ (apart : b ∈ M.ring a → ⊥) (room-a : length (M.ring a) < most_valence) (room-b : length (M.ring b) < most_valence) where
      apart' : a ∈ M.ring b → ⊥
      apart' m = apart (S.mutual' b a b_lt m)

      a_follows : Follows (N.ring a) p b × Follows (N.ring a) b q
      a_follows = E.insert_follows M S N Gone Fresh grows a a_lt p b q at_a k.fa.tri.2 apart

      b_follows : Follows (N.ring b) q a × Follows (N.ring b) a p
      b_follows = E.insert_follows M S N Gone Fresh grows b b_lt q a p at_b k.fb.tri.2 apart'

      a_fits : Fits M S N Gone Fresh a
      a_fits =
          E.insert_fits M S N Gone Fresh grows a a_lt p b q at_a k.fa.tri.2 apart
          (λ e. k.a_b (sym e)) (omega (arith, same_count, b_lt)) room-a
          (inl (inr (inr (refl, refl, refl))))
          (inr (inl (inr (inl (refl, refl, refl)))))
          (inl (inr (inr (refl, refl, refl))))
          (only_a M S k)

      b_fits : Fits M S N Gone Fresh b
      b_fits =
          E.insert_fits M S N Gone Fresh grows b b_lt q a p at_b k.fb.tri.2 apart'
          k.a_b (omega (arith, same_count, a_lt)) room-b
          (inr (inl (inr (inr (refl, refl, refl)))))
          (inl (inr (inl (refl, refl, refl))))
          (inr (inl (inr (inr (refl, refl, refl)))))
          (only_b M S k)

      all_fit : (v : ℕ) → v < N.count → Fits M S N Gone Fresh v
      all_fit v h =
          at_each (Fits M S N Gone Fresh) (p ∷ q ∷ a ∷ b ∷ []) (p_fits, (q_fits, (a_fits, (b_fits, tt)))) v
          (λ o.
          let h' : v < M.count = omega (arith, same_count) in
          E.same_fits M S N Gone Fresh grows v h' (at_other v h' o.0 o.1.0 o.1.1.0 o.1.1.1.0)
          (λ u w. nowhere_else M S k v u w o.0 o.1.0 o.1.1.0 o.1.1.1.0))

      pub flip_sound : Sound N
      flip_sound =
          sound_after M S N Gone Fresh grows all_fit
          ((p_follows, b_follows.1, a_follows.0), ((q_follows, a_follows.1, b_follows.0), tt))

      -- a and b are an edge now, with q and p beside it
      pub flipped_kite : Kite N flip_sound a b q p
      flipped_kite = record {
        fa = record { tri = (a_follows.1, b_follows.0, q_follows); v_lt = in-new a_lt; u_lt = in-new b_lt; w_lt = in-new q_lt };
        fb = record { tri = (b_follows.1, a_follows.0, p_follows); v_lt = in-new b_lt; u_lt = in-new a_lt; w_lt = in-new p_lt };
        p_q = k.a_b;
        p_a = λ e. k.q_a (sym e);
        p_b = λ e. k.p_a (sym e);
        q_a = λ e. k.q_b (sym e);
        q_b = λ e. k.p_b (sym e);
        a_b = λ e. k.p_q (sym e);
      }
        where
          in-new : {v : ℕ} → v < M.count → v < N.count
          in-new h = omega (arith, same_count)

  -- ---- the sum of valences: p and q lose an entry, a and b gain one

  module _ (apart : b ∈ M.ring a → ⊥) where
    pub valence_p : suc (length (N.ring p)) ≡ length (M.ring p)
    valence_p = E.erase_long M S N Gone Fresh grows p p_lt b q a at_p k.fa.tri.0 k.fb.tri.1 (λ e. k.q_b (sym e))

    pub valence_q : suc (length (N.ring q)) ≡ length (M.ring q)
    valence_q = E.erase_long M S N Gone Fresh grows q q_lt a p b at_q k.fb.tri.0 k.fa.tri.1 (λ e. k.p_a (sym e))

    pub valence_a : length (N.ring a) ≡ suc (length (M.ring a))
    valence_a = E.insert_long M S N Gone Fresh grows a a_lt p b q at_a k.fa.tri.2 apart

    pub valence_b : length (N.ring b) ≡ suc (length (M.ring b))
    valence_b = E.insert_long M S N Gone Fresh grows b b_lt q a p at_b k.fb.tri.2 (λ m. apart (S.mutual' b a b_lt m))

    -- the valence of y after and before
    abbrev Counted : ℕ → Type 0
    Counted y = y < M.count → length (N.ring y) + times y (p ∷ q ∷ []) ≡ length (M.ring y) + times y (a ∷ b ∷ [])

    counted_p : Counted p
    counted_p g = rw (eq-eqb p p refl, ne_eqb p q k.p_q, ne_eqb p a k.p_a, ne_eqb p b k.p_b) (omega (arith, valence_p))

    counted_q : Counted q
    counted_q g =
        rw (ne_eqb q p (λ e. k.p_q (sym e)), eq-eqb q q refl, ne_eqb q a k.q_a, ne_eqb q b k.q_b) (omega (arith, valence_q))

    counted_a : Counted a
    counted_a g =
        rw (ne_eqb a p (λ e. k.p_a (sym e)), ne_eqb a q (λ e. k.q_a (sym e)), eq-eqb a a refl, ne_eqb a b k.a_b)
        (omega (arith, valence_a))

    counted_b : Counted b
    counted_b g =
        rw (ne_eqb b p (λ e. k.p_b (sym e)), ne_eqb b q (λ e. k.q_b (sym e)), ne_eqb b a (λ e. k.a_b (sym e)), eq-eqb b b refl)
        (omega (arith, valence_b))

    valence_after : (v : ℕ) → Counted v
    valence_after v =
        at_each Counted (p ∷ q ∷ a ∷ b ∷ []) (counted_p, (counted_q, (counted_a, (counted_b, tt)))) v
        (λ o g.
        rw (ne_eqb v p o.0, ne_eqb v q o.1.0, ne_eqb v a o.1.1.0, ne_eqb v b o.1.1.1.0)
        (omega (arith, ap length (at_other v g o.0 o.1.0 o.1.1.0 o.1.1.1.0))))

    pub flip_sum : valences N ≡ valences M + 0
    unfolding valences rewritten
    flip_sum =
        let s =
        sum_moved (λ v. length (N.ring v)) (λ v. length (M.ring v)) M.count (p ∷ q ∷ []) (a ∷ b ∷ [])
        (all_in (λ y. y < M.count) (p ∷ q ∷ []) (p_lt, (q_lt, tt)))
        (all_in (λ y. y < M.count) (a ∷ b ∷ []) (a_lt, (b_lt, tt)))
        valence_after in
        omega arith
