-- An edit of a mesh takes some triangles away and brings others. Where the rings of the new mesh hold exactly the triangles
-- kept and the triangles brought, and each ring is proper with 3 or more, the new mesh is sound.
-- Assumes nothing.
use mathlib.Core.Path.{◌≡◌, sym, subst}
use mathlib.Core.List.{List, [], ◌∷◌}
use mathlib.Core.Logic.{◌⊎◌, inl, inr, ⊎_elim, ◌≢◌}
use Prim.Native.Nat.{ℕ, ◌≤◌, ◌<◌}
use native.Mathlib.Omega.{arith}
use lib.ListN.{length}
use Rattle.mesh.specs.Limits.{least_valence}
use Rattle.mesh.specs.Ring.{times, ◌∈◌, Follows}
use Rattle.mesh.specs.Mesh.{Mesh, Proper, Sound}
use Rattle.mesh.proofs.Lists.{lt_split, here, there}
use Rattle.mesh.proofs.Rings.{All, all_in, next_in}
use Rattle.mesh.proofs.SoundMeshes.{Tri, Face, face_at_lem}

-- three corners, each of which has the two after it one after the other in its ring
pub record Triangle : Type 0 where
  pub one : ℕ
  pub two : ℕ
  pub three : ℕ

abbrev pub triangle : ℕ → ℕ → ℕ → Triangle
triangle x y z = record { one = x; two = y; three = z }

-- v, u, w are these corners, from any of them on
abbrev Turn : ℕ → ℕ → ℕ → Triangle → Type 0
Turn v u w t =
    ((v ≡ t.one) × (u ≡ t.two) × (w ≡ t.three))
    ⊎ (((v ≡ t.two) × (u ≡ t.three) × (w ≡ t.one))
    ⊎ ((v ≡ t.three) × (u ≡ t.one) × (w ≡ t.two)))

-- they are one of these triangles
abbrev pub Among : ℕ → ℕ → ℕ → List Triangle → Type 0
Among v u w [] = ⊥
Among v u w (t ∷ l) = Turn v u w t ⊎ Among v u w l

-- all of these are triangles of N
abbrev Tris : Mesh → List Triangle → Type 0
Tris N [] = Unit {0}
Tris N (t ∷ l) = Tri N t.one t.two t.three × Tris N l

turn_on : (v u w : ℕ) (t : Triangle) → Turn v u w t → Turn u w v t
turn_on v u w t (inl e) = inr (inl (e.1, e.2, e.0))
turn_on v u w t (inr (inl e)) = inr (inr (e.1, e.2, e.0))
turn_on v u w t (inr (inr e)) = inl (e.1, e.2, e.0)

among_on : (v u w : ℕ) (l : List Triangle) → Among v u w l → Among u w v l
among_on v u w [] m = m
among_on v u w (t ∷ l) (inl m) = inl (turn_on v u w t m)
among_on v u w (t ∷ l) (inr m) = inr (among_on v u w l m)

-- by which corner comes first
pub turn_cases : {A : Type 0} {v u w : ℕ} (t : Triangle) → (v ≡ t.one → u ≡ t.two → A) → (v ≡ t.two → u ≡ t.three → A)
    → (v ≡ t.three → u ≡ t.one → A) → Turn v u w t → A
turn_cases t a b c (inl e) = a e.0 e.1
turn_cases t a b c (inr (inl e)) = b e.0 e.1
turn_cases t a b c (inr (inr e)) = c e.0 e.1

turn_holds : (N : Mesh) (v u w : ℕ) (t : Triangle) → Tri N t.one t.two t.three → Turn v u w t → Follows (N.ring v) u w
turn_holds N v u w t h (inl e) = rw (e.0, e.1, e.2) h.0
turn_holds N v u w t h (inr (inl e)) = rw (e.0, e.1, e.2) h.1
turn_holds N v u w t h (inr (inr e)) = rw (e.0, e.1, e.2) h.2

among_holds : (N : Mesh) (v u w : ℕ) (l : List Triangle) → Tris N l → Among v u w l → Follows (N.ring v) u w
among_holds N v u w [] h m = absurd m
among_holds N v u w (t ∷ l) h (inl m) = turn_holds N v u w t h.0 m
among_holds N v u w (t ∷ l) h (inr m) = among_holds N v u w l h.1 m

differs : (v : ℕ) (l : List ℕ) → (v ∈ l → ⊥) → All (λ y. v ≢ y) l
differs v [] n = tt
differs v (a ∷ l) n = ((λ e. n (subst (λ y. y ∈ a ∷ l) (sym e) (here a l))), differs v l (λ m. n (there v a l m)))

-- what holds at each of some vertices and at all others holds at all
pub at_each : (P : ℕ → Type 0) (l : List ℕ) → All P l → (v : ℕ) → (All (λ y. v ≢ y) l → P v) → P v
at_each P l h v o = ⊎_elim (λ m. all_in P l h v m.1) (λ m. o (differs v l (λ k. omega arith))) (lt_split 0 (times v l))

-- where u and w follow one another in v there is a face
pub face_of : (M : Mesh) (S : Sound M) (v u w : ℕ) → v < M.count → Follows (M.ring v) u w → Face M S v u w
face_of M S v u w h f = subst (λ x. Face M S v u x) f.1 (face_at_lem M S v u h f.0)

module _ (M : Mesh) (S : Sound M) (N : Mesh) (gone fresh : List Triangle) where
  -- a triangle of M that stays
  pub record Stays (v u w : ℕ) : Type 0 where
    pub old : v < M.count
    pub follows : Follows (M.ring v) u w
    pub kept : Among v u w gone → ⊥

  -- the ring of v in N is as it has to be
  pub record Fits (v : ℕ) : Type 0 where
    pub proper : Proper N v
    pub enough : least_valence ≤ length (N.ring v)
    pub cover : (u : ℕ) → u ∈ N.ring v → (w : ℕ) × (Among v u w fresh ⊎ Stays v u w)
    pub keeps : (u w : ℕ) → Stays v u w → Follows (N.ring v) u w

  stays_on : (v u w : ℕ) → Stays v u w → Stays u w v
  stays_on v u w s =
      let f : Face M S v u w = face_of M S v u w s.old s.follows in
      record { old = f.u_lt; follows = f.tri.1; kept = λ g. s.kept (among_on w v u gone (among_on u w v gone g)) }

  module _ (grows : M.count ≤ N.count) (fits : (v : ℕ) → v < N.count → Fits v) (brought : Tris N fresh) where
    Good : ℕ → ℕ → ℕ → Type 0
    Good v u w = Among v u w fresh ⊎ Stays v u w

    holds : (v u w : ℕ) → Good v u w → Follows (N.ring v) u w
    unfolding Good
    holds v u w (inl m) = among_holds N v u w fresh brought m
    holds v u w (inr s) = let o = s.old in (fits v (omega arith)).keeps u w s

    good_on : (v u w : ℕ) → Good v u w → Good u w v
    unfolding Good
    good_on v u w (inl m) = inl (among_on v u w fresh m)
    good_on v u w (inr s) = inr (stays_on v u w s)

    starts : (v u : ℕ) → v < N.count → u ∈ N.ring v → (w : ℕ) × Tri N v u w
    unfolding Good
    starts v u h m =
        let c = (fits v h).cover u m in
        let w : ℕ = c.0 in
        let g : Good v u w = c.1 in
        let g' : Good u w v = good_on v u w g in
        (w, (holds v u w g, holds u w v g', holds w v u (good_on u w v g')))

    pub sound_after : Sound N
    sound_after = record {
      proper = λ v h. (fits v h).proper;
      three = λ v h. (fits v h).enough;
      mutual' = λ v u h m. let s = starts v u h m in subst (λ t. t ∈ N.ring u) s.1.1.1 (next_in (N.ring u) s.0 s.1.1.0);
      face = λ v u h m. let s = starts v u h m in rw s.1.0.1 (s.1.2, s.1.1);
    }
