-- The two triangles at an edge p, q: their further corners are a, after q in p, and b, before it. The four vertices differ.
-- Both edits at an edge take these two triangles away.
-- Assumes nothing.
use mathlib.Core.Path.{◌≡◌, sym}
use mathlib.Core.List.{List, [], ◌∷◌}
use mathlib.Core.Logic.{◌⊎◌, inl, inr, ⊎_elim, ◌≢◌}
use Prim.Native.Nat.{ℕ, ◌<◌}
use Rattle.mesh.specs.Ring.{◌∈◌, next, prev}
use Rattle.mesh.specs.Mesh.{Mesh, Sound}
use Rattle.mesh.proofs.SoundMeshes.{Face, face_at_lem, apart₄, prev_next}
use Rattle.reshape.proofs.Triangles.{Triangle, triangle, Among, turn_cases}

-- the two triangles
abbrev pub both_at : ℕ → ℕ → ℕ → ℕ → List Triangle
both_at p q a b = triangle p q a ∷ triangle q p b ∷ []

module _ (M : Mesh) (S : Sound M) where
  -- the two triangles are faces, and their corners differ
  pub record Kite (p q a b : ℕ) : Type 0 where
    pub fa : Face M S p q a
    pub fb : Face M S q p b
    pub p_q : p ≢ q
    pub p_a : p ≢ a
    pub p_b : p ≢ b
    pub q_a : q ≢ a
    pub q_b : q ≢ b
    pub a_b : a ≢ b

  pub kite : (p q : ℕ) → p < M.count → q ∈ M.ring p → Kite p q (next (M.ring p) q) (next (M.ring q) p)
  kite p q h m =
      let fa = face_at_lem M S p q h m in
      let d = apart₄ M S p q h m in
      record {
        fa = fa;
        fb = face_at_lem M S q p fa.u_lt (S.mutual' p q h m);
        p_q = d.p_q;
        p_a = d.p_a;
        p_b = d.p_b;
        q_a = d.q_a;
        q_b = d.q_b;
        a_b = d.a_b;
      }

  -- with b as document 01 names it
  pub kite_at : (p q : ℕ) → p < M.count → q ∈ M.ring p → Kite p q (next (M.ring p) q) (prev (M.ring p) q)
  kite_at p q h m = rw (prev_next M S p q h m) (kite p q h m)

  -- seen from the other end
  pub other_end : {p q a b : ℕ} → Kite p q a b → Kite q p b a
  other_end k = record {
    fa = k.fb;
    fb = k.fa;
    p_q = λ e. k.p_q (sym e);
    p_a = k.q_b;
    p_b = k.q_a;
    q_a = k.p_b;
    q_b = k.p_a;
    a_b = λ e. k.a_b (sym e);
  }

  -- where the two triangles begin in each ring
  module _ {p q a b : ℕ} (k : Kite p q a b) where
    pub only_p : (u w : ℕ) → Among p u w (both_at p q a b) → (u ≡ q) ⊎ (u ≡ b)
    only_p u w =
        ⊎_elim
        (turn_cases (triangle p q a) (λ _ e. inl e) (λ e _. absurd (k.p_q e)) (λ e _. absurd (k.p_a e)))
        (⊎_elim (turn_cases (triangle q p b) (λ e _. absurd (k.p_q e)) (λ _ e. inr e) (λ e _. absurd (k.p_b e))) (λ z. absurd z))

    pub only_q : (u w : ℕ) → Among q u w (both_at p q a b) → (u ≡ p) ⊎ (u ≡ a)
    only_q u w =
        ⊎_elim
        (turn_cases (triangle p q a) (λ e _. absurd (k.p_q (sym e))) (λ _ e. inr e) (λ e _. absurd (k.q_a e)))
        (⊎_elim (turn_cases (triangle q p b) (λ _ e. inl e) (λ e _. absurd (k.p_q (sym e))) (λ e _. absurd (k.q_b e))) (λ z. absurd z))

    pub only_a : (u w : ℕ) → Among a u w (both_at p q a b) → u ≡ p
    only_a u w =
        ⊎_elim
        (turn_cases (triangle p q a) (λ e _. absurd (k.p_a (sym e))) (λ e _. absurd (k.q_a (sym e))) (λ _ e. e))
        (⊎_elim
        (turn_cases (triangle q p b) (λ e _. absurd (k.q_a (sym e))) (λ e _. absurd (k.p_a (sym e))) (λ e _. absurd (k.a_b e)))
        (λ z. absurd z))

    pub only_b : (u w : ℕ) → Among b u w (both_at p q a b) → u ≡ q
    only_b u w =
        ⊎_elim
        (turn_cases (triangle p q a) (λ e _. absurd (k.p_b (sym e))) (λ e _. absurd (k.q_b (sym e))) (λ e _. absurd (k.a_b (sym e))))
        (⊎_elim (turn_cases (triangle q p b) (λ e _. absurd (k.q_b (sym e))) (λ e _. absurd (k.p_b (sym e))) (λ _ e. e)) (λ z. absurd z))

    pub nowhere_else : (v u w : ℕ) → v ≢ p → v ≢ q → v ≢ a → v ≢ b → Among v u w (both_at p q a b) → ⊥
    nowhere_else v u w vp vq va vb =
        ⊎_elim
        (turn_cases (triangle p q a) (λ e _. vp e) (λ e _. vq e) (λ e _. va e))
        (⊎_elim (turn_cases (triangle q p b) (λ e _. vq e) (λ e _. vp e) (λ e _. vb e)) (λ z. z))
