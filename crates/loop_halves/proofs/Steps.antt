-- Which places are done: none at first, one more, all places of one vertex more. Assumes nothing.
use Prim.Native.Nat.{ℕ, suc, ◌+◌, ◌<◌}
use mathlib.Core.Path.{◌≡◌, refl, sym, subst}
use mathlib.Core.List.{List, [], ◌∷◌}
use mathlib.Core.Logic.{◌⊎◌, inl, inr, ⊎_elim}
use native.Mathlib.Omega.{arith}
use lib.IntN.{ℤ, pos}
use lib.ListN.{length, get_or}
use borrow.Author.Tests.{lt-ltb, le-ltb}
use Rattle.mesh.specs.Numbering.{below}
use Rattle.mesh.specs.Mesh.{over}
use Rattle.mesh.proofs.Lists.{lt_split}
use Rattle.rings.specs.Table.{Lent}
use Rattle.loop_halves.specs.Nearer.{Halves, Points, OnePlace, PlacesBelow, PlacesOfBelow, rings_next, positions_next}
use Rattle.loop_halves.proofs.Nearing.{nearer_none}

pub halves_none : (n : ℕ) (t : Lent) {Did : ℕ → ℕ → Type 0} → ((u i : ℕ) → Did u i → ⊥) → Halves n t t.rings Did
halves_none n t none = record { nearer = nearer_none 0 (rings_next n t) t.rings; low = λ u i d. absurd (none u i d); high = λ u i d. absurd (none u i d) }

pub points_none : (n : ℕ) (t : Lent) (ps : List ℤ) {Did : ℕ → ℕ → Type 0} → ((u i : ℕ) → Did u i → ⊥) → Points n t ps ps Did
points_none n t ps none = record { nearer = nearer_none (pos 0) (positions_next n t ps) ps; low = λ u i d. absurd (none u i d) }

pub no_place : (p u i : ℕ) → PlacesBelow p 0 u i → ⊥
no_place p u i d = omega (arith, d.1)

pub no_vertex : (vs : List ℕ) (u i : ℕ) → PlacesOfBelow vs 0 u i → ⊥
no_vertex vs u i d = omega (arith, d.0)

pub place_more : {n p k : ℕ} → p < n → (u i : ℕ) → PlacesBelow p (k + 1) u i → (u < n) × (PlacesBelow p k u i ⊎ OnePlace p k u i)
place_more {n} {p} {k} h u i d =
    let l : i < k + 1 = d.1 in
    (subst (λ (x : ℕ). x < n) (sym d.0) h, ⊎_elim (λ q. inl (d.0, q.1)) (λ q. inr (d.0, omega arith)) (lt_split i k))

pub vertex_more : (vs : List ℕ) {n p : ℕ} → p < n → (u i : ℕ) → PlacesOfBelow vs (p + 1) u i → (u < n) × (PlacesOfBelow vs p u i ⊎ PlacesBelow p (get_or vs p 0) u i)
vertex_more vs {n} {p} h u i d =
    let l : u < p + 1 = d.0 in
    (omega arith, ⊎_elim (λ q. inl (q.1, d.1)) (λ q. let e : u ≡ p = omega arith in inr (e, subst (λ (x : ℕ). i < get_or vs x 0) e d.1)) (lt_split u p))

pub halves_at : {n : ℕ} {t : Lent} {new : List ℕ} (p : ℕ) {m k : ℕ} → m ≡ k → Halves n t new (PlacesBelow p m) → Halves n t new (PlacesBelow p k)
halves_at {n} {t} {new} p e h = subst (λ (x : ℕ). Halves n t new (PlacesBelow p x)) e h

pub points_at : {n : ℕ} {t : Lent} {ps new : List ℤ} (p : ℕ) {m k : ℕ} → m ≡ k → Points n t ps new (PlacesBelow p m) → Points n t ps new (PlacesBelow p k)
points_at {n} {t} {ps} {new} p e h = subst (λ (x : ℕ). Points n t ps new (PlacesBelow p x)) e h

-- ---- entries below a number

-- those below q are those up to p and those between
pub below_over : (p q : ℕ) (l : List ℕ) → p < q → below q l ≡ below (suc p) l + below q (over p l)
below_over p q [] h = refl
below_over p q (a ∷ l) h =
    ⊎_elim
    (λ u. ⊎_elim
    (λ v. rw (u.0, v.0, le-ltb a (suc p) (omega arith)) (omega (arith, below_over p q l h)))
    (λ v. rw (u.0, v.0, le-ltb a (suc p) (omega arith)) (omega (arith, below_over p q l h)))
    (lt_split a q))
    (λ u. rw (u.0, lt-ltb a (suc p) (omega arith), lt-ltb a q (omega arith)) (omega (arith, below_over p q l h)))
    (lt_split p a)

pub length_over : (p : ℕ) (l : List ℕ) → length l ≡ below (suc p) l + length (over p l)
length_over p [] = refl
length_over p (a ∷ l) =
    ⊎_elim
    (λ u. rw (u.0, le-ltb a (suc p) (omega arith)) (omega (arith, length_over p l)))
    (λ u. rw (u.0, lt-ltb a (suc p) (omega arith)) (omega (arith, length_over p l)))
    (lt_split p a)
