-- Faces of a sound mesh: three corners each, so 2E = 3F.
-- Assumes nothing.
use mathlib.Core.Path.{◌≡◌, refl, sym, ap, ◌∙◌, subst}
use mathlib.Core.Bool.{Bool, true, false, cond}
use mathlib.Core.Logic.{◌⊎◌, inl, inr, ⊎_elim, ◌≢◌}
use Prim.Native.Nat.{ℕ, ◌+◌, ◌*◌, ◌/◌, ◌≤◌, ◌<◌, min}
use native.Mathlib.Nat.{mul-div_cancel_left}
use native.Mathlib.Omega.{arith}
use lib.Dec.{ltb, eqb, lit<}
use lib.ListN.{length}
use borrow.Author.Tests.{lt-ltb, le-ltb, eq-eqb}
use Rattle.mesh.specs.Search.{sum}
use Rattle.mesh.specs.Ring.{times, ◌∈◌, next}
use Rattle.mesh.specs.Mesh.{Mesh, Sound, edges, faces, valences}
use Rattle.mesh.proofs.Lists.{eq_split, lt_split, sum_same, sum_add, sum_swap, sum_times, sum_zero, sum_pick}
use Rattle.mesh.proofs.Rings.{next_in}
use Rattle.mesh.proofs.Edges.{handshake}
use Rattle.mesh.proofs.SoundMeshes.{face_at_lem, edge_ne}

unfoldable pub sum₃ : (ℕ → ℕ → ℕ → ℕ) → ℕ → ℕ
sum₃ f n = sum (λ v. sum (λ u. sum (λ w. f v u w) n) n) n

sum₃_same : (f g : ℕ → ℕ → ℕ → ℕ) (n : ℕ) → ((v u w : ℕ) → v < n → u < n → w < n → f v u w ≡ g v u w) → sum₃ f n ≡ sum₃ g n
unfolding sum₃
sum₃_same f g n h = sum_same _ _ n (λ v i. sum_same _ _ n (λ u j. sum_same _ _ n (λ w k. h v u w i j k)))

sum₃_add : (f g : ℕ → ℕ → ℕ → ℕ) (n : ℕ) → sum₃ (λ v u w. f v u w + g v u w) n ≡ sum₃ f n + sum₃ g n
unfolding sum₃
sum₃_add f g n =
    sum_same _ _ n (λ v i. sum_same _ _ n (λ u j. sum_add (f v u) (g v u) n) ∙ sum_add (λ u. sum (f v u) n) (λ u. sum (g v u) n) n)
    ∙ sum_add (λ v. sum (λ u. sum (f v u) n) n) (λ v. sum (λ u. sum (g v u) n) n) n

sum₃_turn : (f : ℕ → ℕ → ℕ → ℕ) (n : ℕ) → sum₃ (λ v u w. f u w v) n ≡ sum₃ f n
unfolding sum₃
sum₃_turn f n = sum_swap (λ v u. sum (λ w. f u w v) n) n n ∙ sum_same _ _ n (λ u j. sum_swap (λ v w. f u w v) n n)

-- of three numbers that differ one is the smallest
smallest : (v u w c : ℕ) → v ≢ u → u ≢ w → w ≢ v → c ≡ (cond (ltb v (min u w)) c 0 + cond (ltb u (min w v)) c 0) + cond (ltb w (min v u)) c 0
smallest v u w c d e f =
    ⊎_elim
    (λ h. rw (h.0, le-ltb u (min w v) (omega arith), le-ltb w (min v u) (omega arith)) (omega arith))
    (λ h.
    rw h.0
    (⊎_elim
    (λ g. rw (g.0, le-ltb w (min v u) (omega arith)) (omega arith))
    (λ g. rw (g.0, lt-ltb w (min v u) (omega arith)) (omega arith))
    (lt_split u (min w v))))
    (lt_split v (min u w))

pub cond_zero : (b : Bool) (c : ℕ) → c ≡ 0 → cond b c 0 ≡ 0
cond_zero true c e = e
cond_zero false c e = refl

module _ (M : Mesh) (S : Sound M) where
  -- 1 where u, w follow one another in the ring of v
  unfoldable pub tri : ℕ → ℕ → ℕ → ℕ
  tri v u w = cond (eqb w (next (M.ring v) u)) (times u (M.ring v)) 0

  pub tri_yes : (v u w : ℕ) → u ∈ M.ring v → w ≡ next (M.ring v) u → tri v u w ≡ times u (M.ring v)
  unfolding tri
  tri_yes v u w m e = rw (eq-eqb w (next (M.ring v) u) e)

  pub tri_cases : (v u w : ℕ) → (tri v u w ≡ 0) ⊎ ((u ∈ M.ring v) × (w ≡ next (M.ring v) u))
  unfolding tri
  tri_cases v u w =
      ⊎_elim
      (λ e. ⊎_elim (λ h. inr (h.1, e.1)) (λ h. inl (rw e.0 (omega arith))) (lt_split 0 (times u (M.ring v))))
      (λ e. inl (rw e.0))
      (eq_split w (next (M.ring v) u))

  tri_le : (v u w : ℕ) → v < M.count → tri v u w ≤ tri u w v
  tri_le v u w h =
      ⊎_elim
      (λ z. omega arith)
      (λ r.
      let f = face_at_lem M S v u h r.0 in
      let g : w ∈ M.ring u = subst (λ x. x ∈ M.ring u) (sym r.1) f.tri.1.0 in
      omega (arith, tri_yes v u w r.0 r.1, tri_yes u w v g (sym (subst (λ x. next (M.ring u) x ≡ v) (sym r.1) f.tri.1.1)), (S.proper v h).distinct u))
      (tri_cases v u w)

  tri_turn : (v u w : ℕ) → v < M.count → u < M.count → w < M.count → tri v u w ≡ tri u w v
  tri_turn v u w h g k = omega (arith, tri_le v u w h, tri_le u w v g, tri_le w v u k)

  -- the same, counted only where v is the smallest corner
  unfoldable pub low : ℕ → ℕ → ℕ → ℕ
  low v u w = cond (ltb v (min u w)) (tri v u w) 0

  pub tri_low : (v u w : ℕ) → v < M.count → u < M.count → w < M.count → tri v u w ≡ (low v u w + low u w v) + low w v u
  unfolding low
  tri_low v u w h g k =
      rw (← tri_turn v u w h g k, tri_turn w v u k h g)
      (⊎_elim
      (λ z. omega (arith, z, cond_zero (ltb v (min u w)) (tri v u w) z, cond_zero (ltb u (min w v)) (tri v u w) z, cond_zero (ltb w (min v u)) (tri v u w) z))
      (λ r.
      let f = face_at_lem M S v u h r.0 in
      smallest v u w (tri v u w) (λ e. edge_ne M S v u h r.0 (sym e)) (λ e. edge_ne M S u w g (subst (λ x. x ∈ M.ring u) (sym r.1) f.tri.1.0) (sym e))
      (edge_ne M S v w h (subst (λ x. x ∈ M.ring v) (sym r.1) (next_in (M.ring v) u r.0))))
      (tri_cases v u w))

  pub all_third : (v u : ℕ) → v < M.count → sum (λ w. tri v u w) M.count ≡ times u (M.ring v)
  unfolding tri
  all_third v u h =
      ⊎_elim
      (λ m. sum_pick (next (M.ring v) u) (times u (M.ring v)) M.count ((S.proper v h).known _ (next_in (M.ring v) u m.1)))
      (λ m. sum_zero _ M.count (λ w k. cond_zero (eqb w (next (M.ring v) u)) (times u (M.ring v)) (omega arith)) ∙ omega arith)
      (lt_split 0 (times u (M.ring v)))

  -- the triangles, each at its smallest corner
  unfoldable pub triangles : ℕ
  triangles = sum₃ low M.count

  pub corners : valences M ≡ 3 * triangles
  unfolding valences triangles
  corners =
      let n : ℕ = M.count in
      let e₁ : sum (λ v. length (M.ring v)) n ≡ sum₃ tri n =
      unfold sum₃ in
      sum_same _ _ n (λ v h.
      sym (sum_times n (M.ring v) (S.proper v h).known) ∙ sum_same _ _ n (λ u g. sym (all_third v u h))) in
      let e₂ : sum₃ tri n ≡ sum₃ (λ v u w. (low v u w + low u w v) + low w v u) n = sum₃_same _ _ n tri_low in
      let e₃ = sum₃_add (λ v u w. low v u w + low u w v) (λ v u w. low w v u) n in
      let e₄ = sum₃_add low (λ v u w. low u w v) n in
      let e₅ = sum₃_turn low n in
      let e₆ = sum₃_turn (λ v u w. low u w v) n in
      omega arith

  -- F = 2E / 3 loses nothing
  twice_edges : 2 * edges M ≡ 3 * triangles
  twice_edges = sym (handshake M S.proper S.mutual') ∙ corners

  pub faces_triangles : faces M ≡ triangles
  unfolding faces
  faces_triangles = ap (λ x. x / 3) twice_edges ∙ mul-div_cancel_left triangles (lit< tt)

  pub three_faces : 3 * faces M ≡ 2 * edges M
  three_faces = omega (arith, faces_triangles, twice_edges)
