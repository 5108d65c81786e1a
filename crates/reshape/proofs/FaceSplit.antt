-- A face split in a sound mesh: the rings after it, and that the mesh is sound. The face is u, v, w with next(u in v) = w.
-- Assumes nothing.
use mathlib.Core.Path.{◌≡◌, refl, sym, ap}
use mathlib.Core.Bool.{false}
use mathlib.Core.List.{List, [], ◌∷◌}
use mathlib.Core.Logic.{inl, inr, ⊎_elim, ◌≢◌}
use Prim.Native.Nat.{ℕ, suc, ◌+◌, ◌≤◌, ◌<◌}
use native.Mathlib.Nat.{not-suc-le-zero}
use native.Mathlib.Omega.{arith}
use lib.Dec.{eqb, lit<, lit≤}
use lib.ListN.{length}
use borrow.Author.Tests.{lt-ltb, eq-eqb, ne_eqb}
use Rattle.mesh.specs.Limits.{most_valence}
use Rattle.mesh.specs.Ring.{times, ◌∈◌, Distinct, place_after, Follows}
use Rattle.mesh.specs.Edits.{insert_after}
use Rattle.mesh.specs.Mesh.{Mesh, Sound, valences}
use Rattle.mesh.proofs.Rings.{all_in, Apart, apart_distinct, get_or_in, next_get_or}
use Rattle.mesh.proofs.SoundMeshes.{Face, edge_ne}
use Rattle.reshape.specs.Rows.{rewritten}
use Rattle.reshape.specs.Reshape.{face_rows_of}
use Rattle.reshape.proofs.Triangles.{Triangle, triangle, Among, Fits, turn_cases, at_each, sound_after}
use Rattle.reshape.proofs.EditedRings as E
use Rattle.reshape.proofs.EditCounts.{sum_moved}

-- the three triangles at x
abbrev three_at : ℕ → ℕ → ℕ → ℕ → List Triangle
three_at u v w x = triangle x u w ∷ triangle x w v ∷ triangle x v u ∷ []

module _ (M : Mesh) (S : Sound M) {u v w : ℕ} (f : Face M S v u w) where
  -- the mesh split
  abbrev pub N : Mesh
  N = rewritten M (suc M.count) (face_rows_of M.ring u v w M.count)

  u_lt : u < M.count
  u_lt = f.u_lt

  v_lt : v < M.count
  v_lt = f.v_lt

  w_lt : w < M.count
  w_lt = f.w_lt

  pub u_v : u ≢ v
  u_v = edge_ne M S v u v_lt f.tri.0.0

  pub u_w : u ≢ w
  u_w e = edge_ne M S u w u_lt f.tri.1.0 (sym e)

  pub v_w : v ≢ w
  v_w = edge_ne M S w v w_lt f.tri.2.0

  unknown : (y : ℕ) → y < M.count → M.count ∈ M.ring y → ⊥
  unknown = E.new_absent M S

  -- ---- the rings

  pub at_u : N.ring u ≡ insert_after w M.count (M.ring u)
  unfolding rewritten
  at_u = let h = u_lt in rw (lt-ltb u (suc M.count) (omega arith), eq-eqb u u refl)

  pub at_v : N.ring v ≡ insert_after u M.count (M.ring v)
  unfolding rewritten
  at_v = let h = v_lt in rw (lt-ltb v (suc M.count) (omega arith), ne_eqb v u (λ e. u_v (sym e)), eq-eqb v v refl)

  pub at_w : N.ring w ≡ insert_after v M.count (M.ring w)
  unfolding rewritten
  at_w =
      let h = w_lt in
      rw (lt-ltb w (suc M.count) (omega arith), ne_eqb w u (λ e. u_w (sym e)), ne_eqb w v (λ e. v_w (sym e)), eq-eqb w w refl)

  pub at_x : N.ring M.count ≡ u ∷ w ∷ v ∷ []
  unfolding rewritten
  at_x =
      let x : ℕ = M.count in
      let other : (y : ℕ) → y < x → eqb x y ≡ false = λ y h. ne_eqb x y (omega arith) in
      rw (lt-ltb x (suc x) (omega arith), other u u_lt, other v v_lt, other w w_lt, eq-eqb x x refl)

  pub at_other : (y : ℕ) → y < M.count → y ≢ u → y ≢ v → y ≢ w → N.ring y ≡ M.ring y
  unfolding rewritten
  at_other y h yu yv yw =
      let old : eqb y M.count ≡ false = ne_eqb y M.count (omega arith) in
      rw (lt-ltb y (suc M.count) (omega arith), ne_eqb y u yu, ne_eqb y v yv, ne_eqb y w yw, old)

  -- ---- each ring fits, where the corners have room

  -- the face goes
  abbrev Gone : List Triangle
  Gone = triangle v u w ∷ []

  -- the three at the new vertex come
  abbrev Fresh : List Triangle
  Fresh = three_at u v w M.count

  grows : M.count ≤ N.count
  unfolding rewritten
  grows = omega arith

  new_lt : M.count < N.count
  unfolding rewritten
  new_lt = omega arith

  new_ne : (y : ℕ) → y < M.count → M.count ≢ y
  new_ne y h = omega arith

  only_u : (y z : ℕ) → Among u y z Gone → y ≡ w
  only_u y z = ⊎_elim (turn_cases (triangle v u w) (λ e _. absurd (u_v e)) (λ _ e. e) (λ e _. absurd (u_w e))) (λ n. absurd n)

  only_v : (y z : ℕ) → Among v y z Gone → y ≡ u
  only_v y z = ⊎_elim (turn_cases (triangle v u w) (λ _ e. e) (λ e _. absurd (u_v (sym e))) (λ e _. absurd (v_w e))) (λ n. absurd n)

  only_w : (y z : ℕ) → Among w y z Gone → y ≡ v
  only_w y z = ⊎_elim (turn_cases (triangle v u w) (λ e _. absurd (v_w (sym e))) (λ e _. absurd (u_w (sym e))) (λ _ e. e)) (λ n. absurd n)

  u_follows : Follows (N.ring u) w M.count × Follows (N.ring u) M.count v
  u_follows = E.insert_follows M S N Gone Fresh grows u u_lt w M.count v at_u f.tri.1 (unknown u u_lt)

  v_follows : Follows (N.ring v) u M.count × Follows (N.ring v) M.count w
  v_follows = E.insert_follows M S N Gone Fresh grows v v_lt u M.count w at_v f.tri.0 (unknown v v_lt)

  w_follows : Follows (N.ring w) v M.count × Follows (N.ring w) M.count u
  w_follows = E.insert_follows M S N Gone Fresh grows w w_lt v M.count u at_w f.tri.2 (unknown w w_lt)

  around : List ℕ
  around = u ∷ w ∷ v ∷ []

  around_apart : Apart around
  unfolding around
  around_apart = ((u_w, (u_v, tt)), (((λ e. v_w (sym e)), tt), (tt, tt)))

  around_distinct : Distinct around
  around_distinct = apart_distinct around around_apart

  x_follows : Follows (N.ring M.count) u w × Follows (N.ring M.count) w v × Follows (N.ring M.count) v u
  unfolding around place_after
  x_follows =
      rw at_x (
        (get_or_in around 0 0 (lit< tt), next_get_or around around_distinct 0 (lit< tt)),
        (get_or_in around 1 0 (lit< tt), next_get_or around around_distinct 1 (lit< tt)),
        (get_or_in around 2 0 (lit< tt), next_get_or around around_distinct 2 (lit< tt)),
      )

  x_fits : Fits M S N Gone Fresh M.count
  unfolding around
  x_fits =
      E.new_fits M S N Gone Fresh around at_x new_lt around_apart (u_lt, (w_lt, (v_lt, tt))) (lit≤ tt) (lit≤ tt) (
        (w, inl (inl (refl, refl, refl))),
        ((v, inr (inl (inl (refl, refl, refl)))), ((u, inr (inr (inl (inl (refl, refl, refl))))), tt)),
      )

  module _ (room-u : length (M.ring u) < most_valence) (room-v : length (M.ring v) < most_valence) (room-w : length (M.ring w) < most_valence) where
    u_fits : Fits M S N Gone Fresh u
    u_fits =
        E.insert_fits M S N Gone Fresh grows u u_lt w M.count v at_u f.tri.1 (unknown u u_lt) (new_ne u u_lt) new_lt room-u
        (inl (inr (inl (refl, refl, refl))))
        (inr (inr (inl (inr (inr (refl, refl, refl))))))
        (inl (inr (inl (refl, refl, refl))))
        only_u

    v_fits : Fits M S N Gone Fresh v
    v_fits =
        E.insert_fits M S N Gone Fresh grows v v_lt u M.count w at_v f.tri.0 (unknown v v_lt) (new_ne v v_lt) new_lt room-v
        (inr (inr (inl (inr (inl (refl, refl, refl))))))
        (inr (inl (inr (inr (refl, refl, refl)))))
        (inl (inl (refl, refl, refl)))
        only_v

    w_fits : Fits M S N Gone Fresh w
    w_fits =
        E.insert_fits M S N Gone Fresh grows w w_lt v M.count u at_w f.tri.2 (unknown w w_lt) (new_ne w w_lt) new_lt room-w
        (inr (inl (inr (inl (refl, refl, refl)))))
        (inl (inr (inr (refl, refl, refl))))
        (inl (inr (inr (refl, refl, refl))))
        only_w

    all_fit : (y : ℕ) → y < N.count → Fits M S N Gone Fresh y
    unfolding rewritten
    all_fit y h =
        at_each (Fits M S N Gone Fresh) (u ∷ v ∷ w ∷ M.count ∷ []) (u_fits, (v_fits, (w_fits, (x_fits, tt)))) y
        (λ o.
        let yx : y ≢ M.count = o.1.1.1.0 in
        E.same_fits M S N Gone Fresh grows y (omega arith) (at_other y (omega arith) o.0 o.1.0 o.1.1.0)
        (λ s t. ⊎_elim (turn_cases (triangle v u w) (λ e _. o.1.0 e) (λ e _. o.0 e) (λ e _. o.1.1.0 e)) (λ n. n)))

    pub face_split_sound : Sound N
    face_split_sound =
        sound_after M S N Gone Fresh grows all_fit (
          (x_follows.0, u_follows.0, w_follows.1),
          ((x_follows.1, w_follows.0, v_follows.1), ((x_follows.2, v_follows.0, u_follows.1), tt)),
        )

  -- ---- the sum of valences: the corners gain an entry, and x has three

  abbrev gaining : List ℕ
  gaining = u ∷ v ∷ w ∷ []

  valence_after : (y : ℕ) → y < M.count → length (N.ring y) + times y [] ≡ length (M.ring y) + times y gaining
  valence_after y h =
      at_each (λ t. t < M.count → length (N.ring t) + times t [] ≡ length (M.ring t) + times t gaining) gaining (
        (λ g. rw (eq-eqb u u refl, ne_eqb u v u_v, ne_eqb u w u_w) (omega (arith, long_u))),
        (
          (λ g. rw (ne_eqb v u (λ e. u_v (sym e)), eq-eqb v v refl, ne_eqb v w v_w) (omega (arith, long_v))),
          (
            (λ g. rw (ne_eqb w u (λ e. u_w (sym e)), ne_eqb w v (λ e. v_w (sym e)), eq-eqb w w refl) (omega (arith, long_w))),
            tt,
          ),
        ),
      )
      y
      (λ o g.
      rw (ne_eqb y u o.0, ne_eqb y v o.1.0, ne_eqb y w o.1.1.0)
      (omega (arith, ap length (at_other y g o.0 o.1.0 o.1.1.0))))
      h
    where
      long_u : length (N.ring u) ≡ suc (length (M.ring u))
      long_u = E.insert_long M S N Gone Fresh grows u u_lt w M.count v at_u f.tri.1 (unknown u u_lt)

      long_v : length (N.ring v) ≡ suc (length (M.ring v))
      long_v = E.insert_long M S N Gone Fresh grows v v_lt u M.count w at_v f.tri.0 (unknown v v_lt)

      long_w : length (N.ring w) ≡ suc (length (M.ring w))
      long_w = E.insert_long M S N Gone Fresh grows w w_lt v M.count u at_w f.tri.2 (unknown w w_lt)

  pub face_split_sum : valences N ≡ valences M + 6
  unfolding valences rewritten
  face_split_sum =
      let s =
      sum_moved (λ y. length (N.ring y)) (λ y. length (M.ring y)) M.count [] gaining
      (λ y m. absurd (not-suc-le-zero m))
      (all_in (λ y. y < M.count) gaining (u_lt, (v_lt, (w_lt, tt))))
      valence_after in
      let l : length (N.ring M.count) ≡ 3 = ap length at_x in
      omega arith
