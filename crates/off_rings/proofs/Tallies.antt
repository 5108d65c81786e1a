-- Sums over a list of faces, and over the faces of a mesh as they are listed. Assumes nothing.
use mathlib.Core.Path.{◌≡◌, refl, ap, ap₂, ◌∙◌}
use mathlib.Core.Bool.{Bool, true, false, cond}
use mathlib.Core.List.{List, [], ◌∷◌, ◌++◌}
use mathlib.Core.Logic.{⊎_elim}
use Prim.Native.Nat.{ℕ, zero, suc, ◌+◌, ◌≤◌, ◌<◌}
use native.Mathlib.Omega.{arith}
use lib.Dec.{eqb}
use lib.ListN.{length, get_or}
use Rattle.mesh.specs.Search.{sum}
use Rattle.mesh.specs.Mesh.{Mesh}
use Rattle.mesh.proofs.Lists.{eq_split, sum_same, sum_zero, sum_pick}
use Rattle.off_rings.specs.Faces.{Face}
use Rattle.off_rings.specs.Listed.{face_at, begins, faces_from, faces_below, listed}

-- ---- sums

sum_front : (f : ℕ → ℕ) (n : ℕ) → sum f (suc n) ≡ f 0 + sum (λ i. f (suc i)) n
sum_front f zero = omega arith
sum_front f (suc n) = omega (arith, sum_front f n)

pub sum_cond : (t : Bool) (h : ℕ → ℕ) (n : ℕ) → sum (λ b. cond t (h b) 0) n ≡ cond t (sum h n) 0
sum_cond true h n = refl
sum_cond false h n = sum_zero (λ b. 0) n (λ i k. refl)

pub sum_at : (g : ℕ → ℕ) (a n : ℕ) → a < n → sum (λ q. cond (eqb q a) (g q) 0) n ≡ g a
sum_at g a n h =
    sum_same (λ q. cond (eqb q a) (g q) 0) (λ q. cond (eqb q a) (g a) 0) n
    (λ q k. ⊎_elim (λ e. ap (λ y. cond (eqb q a) (g y) 0) e.1) (λ e. rw e.0) (eq_split q a))
    ∙ sum_pick a (g a) n h

-- ---- over a list

abbrev pub tally : (Face → ℕ) → List Face → ℕ
tally g [] = 0
tally g (f ∷ l) = g f + tally g l

tally_append : (g : Face → ℕ) (s t : List Face) → tally g (s ++ t) ≡ tally g s + tally g t
tally_append g [] t = omega arith
tally_append g (f ∷ s) t = omega (arith, tally_append g s t)

pub tally_sum : (g : Face → ℕ) (l : List Face) (d : Face) → sum (λ i. g (get_or l i d)) (length l) ≡ tally g l
tally_sum g [] d = refl
tally_sum g (f ∷ l) d = sum_front (λ i. g (get_or (f ∷ l) i d)) (length l) ∙ ap (λ k. g f + k) (tally_sum g l d)

tally_one : (g : Face → ℕ) (t : Bool) (f : Face) → tally g (cond t (f ∷ []) []) ≡ cond t (g f) 0
tally_one g true f = omega arith
tally_one g false f = refl

module _ (M : Mesh) (g : Face → ℕ) where
  -- what the edge a, b adds
  abbrev pub term : ℕ → ℕ → ℕ
  term a b = cond (begins M a b) (g (face_at M a b)) 0

  tally_from : (a k : ℕ) → tally g (faces_from M a k) ≡ sum (term a) k
  unfolding faces_from
  tally_from a zero = refl
  tally_from a (suc k) =
      tally_append g (faces_from M a k) (cond (begins M a k) (face_at M a k ∷ []) [])
      ∙ ap₂ (λ p q. p + q) (tally_from a k) (tally_one g (begins M a k) (face_at M a k))

  tally_below : (k : ℕ) → tally g (faces_below M k) ≡ sum (λ a. sum (term a) M.count) k
  unfolding faces_below
  tally_below zero = refl
  tally_below (suc k) = tally_append g (faces_below M k) (faces_from M k M.count) ∙ ap₂ (λ p q. p + q) (tally_below k) (tally_from k M.count)

  pub tally_listed : tally g (listed M) ≡ sum (λ a. sum (term a) M.count) M.count
  unfolding listed
  tally_listed = tally_below M.count

-- ---- what holds of every face that begins holds of every face listed

abbrev pub Every : (Face → Type 0) → List Face → Type 0
Every P [] = Unit {0}
Every P (f ∷ l) = P f × Every P l

pub every_append : (P : Face → Type 0) (s t : List Face) → Every P s → Every P t → Every P (s ++ t)
every_append P [] t a b = b
every_append P (f ∷ s) t a b = (a.0, every_append P s t a.1 b)

pub every_at : (P : Face → Type 0) (l : List Face) (d : Face) (i : ℕ) → Every P l → i < length l → P (get_or l i d)
every_at P [] d i e h = absurd (omega arith)
every_at P (f ∷ l) d zero e h = e.0
every_at P (f ∷ l) d (suc i) e h = every_at P l d i e.1 (omega arith)

module _ (M : Mesh) (P : Face → Type 0) (h : (a b : ℕ) → a < M.count → begins M a b ≡ true → P (face_at M a b)) where
  every_from : (a k : ℕ) → a < M.count → Every P (faces_from M a k)
  unfolding faces_from
  every_from a zero l = tt
  every_from a (suc k) l = every_append P (faces_from M a k) (cond (begins M a k) (face_at M a k ∷ []) []) (every_from a k l) (one (begins M a k) refl)
    where
      one : (t : Bool) → begins M a k ≡ t → Every P (cond t (face_at M a k ∷ []) [])
      one true e = (h a k l e, tt)
      one false e = tt

  every_below : (k : ℕ) → k ≤ M.count → Every P (faces_below M k)
  unfolding faces_below
  every_below zero l = tt
  every_below (suc k) l = every_append P (faces_below M k) (faces_from M k M.count) (every_below k (omega arith)) (every_from k M.count (omega arith))

  pub every_listed : Every P (listed M)
  unfolding listed
  every_listed = every_below M.count (omega arith)
