-- What a sound mesh has at each edge: two triangles whose four vertices differ. And meshes with the same rings are equal.
-- Assumes nothing.
use mathlib.Core.Path.{◌≡◌, refl, sym, ap, ◌∙◌, subst, fun_ext}
use mathlib.Core.List.{List}
use mathlib.Core.Logic.{◌⊎◌, inl, inr, ⊎_elim, ◌≢◌}
use Prim.Native.Nat.{ℕ, ◌<◌, min, max}
use native.Mathlib.Omega.{arith}
use Rattle.mesh.specs.Ring.{◌∈◌, next, prev, Follows}
use Rattle.mesh.specs.Mesh.{Mesh, mesh, Sound}
use Rattle.mesh.proofs.Lists.{lt_split}
use Rattle.mesh.proofs.Rings.{next_in, prev_in, next_prev, next_next_ne}

pub same_pair : (v u v' u' : ℕ) → min v u ≡ min v' u' → max v u ≡ max v' u' → ((v ≡ v') × (u ≡ u')) ⊎ ((v ≡ u') × (u ≡ v'))
same_pair v u v' u' e f =
    ⊎_elim
    (λ h. ⊎_elim (λ g. inl (omega arith)) (λ g. inr (omega arith)) (lt_split v' u'))
    (λ h. ⊎_elim (λ g. inr (omega arith)) (λ g. inl (omega arith)) (lt_split v' u'))
    (lt_split v u)

-- a triangle: each corner has the two others one after the other
abbrev pub Tri : Mesh → ℕ → ℕ → ℕ → Type 0
Tri M x y z = Follows (M.ring x) y z × Follows (M.ring y) z x × Follows (M.ring z) x y

pub turn : (M : Mesh) (x y z : ℕ) → Tri M x y z → Tri M y z x
turn M x y z t = (t.1, t.2, t.0)

module _ (M : Mesh) (S : Sound M) where
  pub edge_lt : (v u : ℕ) → v < M.count → u ∈ M.ring v → u < M.count
  edge_lt v u h m = (S.proper v h).known u m

  pub edge_ne : (v u : ℕ) → v < M.count → u ∈ M.ring v → u ≢ v
  edge_ne v u h m e = (S.proper v h).other (subst (λ x. x ∈ M.ring v) e m)

  -- the triangle at a corner
  pub record Face (v u w : ℕ) : Type 0 where
    pub tri : Tri M v u w
    pub v_lt : v < M.count
    pub u_lt : u < M.count
    pub w_lt : w < M.count

  pub face_at_lem : (v u : ℕ) → v < M.count → u ∈ M.ring v → Face v u (next (M.ring v) u)
  face_at_lem v u h m =
      let w : ℕ = next (M.ring v) u in
      let n : w ∈ M.ring v = next_in (M.ring v) u m in
      let g : w < M.count = edge_lt v w h n in
      let f = S.face v u h m in
      record { tri = ((m, refl), f.1, f.0); v_lt = h; u_lt = edge_lt v u h m; w_lt = g }

  pub turned : {v u w : ℕ} → Face v u w → Face u w v
  turned {v} {u} {w} f = record { tri = turn M v u w f.tri; v_lt = f.u_lt; u_lt = f.w_lt; w_lt = f.v_lt }

  -- the vertex before q in p is the one after p in q
  pub prev_next : (p q : ℕ) → p < M.count → q ∈ M.ring p → prev (M.ring p) q ≡ next (M.ring q) p
  prev_next p q h m =
      let b : ℕ = prev (M.ring p) q in
      let f = S.face p b h (prev_in (M.ring p) q m) in
      sym (rw (next_prev (M.ring p) (S.proper p h).distinct q m) at f.0.1)

  -- the four vertices of two triangles at an edge differ, and so do the five edges
  pub record Apart₄ (p q a b : ℕ) : Type 0 where
    pub p_q : p ≢ q
    pub p_a : p ≢ a
    pub p_b : p ≢ b
    pub q_a : q ≢ a
    pub q_b : q ≢ b
    pub a_b : a ≢ b

  pub apart₄ : (p q : ℕ) → p < M.count → q ∈ M.ring p → Apart₄ p q (next (M.ring p) q) (next (M.ring q) p)
  apart₄ p q h m =
      let fa = face_at_lem p q h m in
      let fb = face_at_lem q p fa.u_lt (S.mutual' p q h m) in
      let a : ℕ = next (M.ring p) q in
      let b : ℕ = next (M.ring q) p in
      record {
        p_q = λ e. edge_ne p q h m (sym e);
        p_a = edge_ne a p fa.w_lt fa.tri.2.0;
        p_b = λ e. edge_ne p b h fb.tri.1.0 (sym e);
        q_a = λ e. edge_ne q a fa.u_lt fa.tri.1.0 (sym e);
        q_b = edge_ne b q fb.w_lt fb.tri.2.0;
        a_b = λ e. next_next_ne (M.ring p) (S.proper p h).distinct q m (S.three p h) (ap (next (M.ring p)) e ∙ fb.tri.1.1);
      }

-- meshes are equal if their rings are, below the count
pub mesh_same : (n : ℕ) (f g : ℕ → List ℕ) → ((v : ℕ) → v < n → f v ≡ g v) → mesh n f ≡ mesh n g
mesh_same n f g h = ap (λ (r : ℕ → List ℕ). record { count = n; ring = r }) (fun_ext (λ v. ⊎_elim (λ l. rw l.0 (h v l.1)) (λ l. rw l.0) (lt_split v n)))
