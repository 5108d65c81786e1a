-- Rings: places and entries, next and prev, and what a map and a ring of given entries do to them.
-- Assumes nothing.
use mathlib.Core.Path.{◌≡◌, refl, sym, ap, ap₂, ◌∙◌, subst}
use mathlib.Core.Bool.{true, false}
use mathlib.Core.List.{List, [], ◌∷◌, map}
use mathlib.Core.Logic.{◌⊎◌, inl, inr, ⊎_elim, ◌≢◌}
use Prim.Native.Nat.{ℕ, zero, suc, ◌-◌, ◌≤◌, ◌<◌}
use native.Mathlib.Nat.{not-suc-le-zero}
use native.Mathlib.Omega.{arith}
use lib.Dec.{eqb}
use lib.ListN.{length, get_or, length-map}
use borrow.Author.Tests.{eq-eqb, ne_eqb}
use Rattle.mesh.specs.Ring.{times, ◌∈◌, Distinct, place, place_after, place_before, next, prev}
use Rattle.mesh.proofs.Lists.{eq_split, lt_split, here, there, distinct_tail}

-- ---- places and entries

pub in_cons : (x a : ℕ) (l : List ℕ) → x ∈ a ∷ l → x ≢ a → x ∈ l
in_cons x a l m n = omega (arith, rw (ne_eqb x a n) at m)

pub place_lt : (x : ℕ) (l : List ℕ) → x ∈ l → place x l < length l
place_lt x [] m = absurd (not-suc-le-zero m)
place_lt x (a ∷ l) m =
    ⊎_elim (λ e. rw e.0 (omega arith)) (λ e. rw e.0 (omega (arith, place_lt x l (in_cons x a l m e.1)))) (eq_split x a)

pub get_or_place : (x : ℕ) (l : List ℕ) (d : ℕ) → x ∈ l → get_or l (place x l) d ≡ x
get_or_place x [] d m = absurd (not-suc-le-zero m)
get_or_place x (a ∷ l) d m =
    ⊎_elim (λ e. rw e.0 (sym e.1)) (λ e. rw e.0 (get_or_place x l d (in_cons x a l m e.1))) (eq_split x a)

pub get_or_in : (l : List ℕ) (i d : ℕ) → i < length l → get_or l i d ∈ l
get_or_in [] i d h = absurd (not-suc-le-zero h)
get_or_in (a ∷ l) zero d h = here a l
get_or_in (a ∷ l) (suc i) d h = there (get_or l i d) a l (get_or_in l i d (omega arith))

pub place_get_or : (l : List ℕ) (i d : ℕ) → Distinct l → i < length l → place (get_or l i d) l ≡ i
place_get_or [] i d o h = absurd (not-suc-le-zero h)
place_get_or (a ∷ l) zero d o h = rw (eq-eqb a a refl)
place_get_or (a ∷ l) (suc i) d o h =
    let y : ℕ = get_or l i d in
    let m : y ∈ l = get_or_in l i d (omega arith) in
    rw (ne_eqb y a (λ e. twice y a l m e (o y))) (ap suc (place_get_or l i d (distinct_tail a l o) (omega arith)))
  where
    twice : (y a : ℕ) (l : List ℕ) → y ∈ l → y ≡ a → times y (a ∷ l) ≤ 1 → ⊥
    twice y a l m e t = omega (arith, rw (eq-eqb y a e) at t)

-- ---- going round

pub after_lt : (n i : ℕ) → i < n → place_after n i < n
unfolding place_after
after_lt n i h = ⊎_elim (λ e. rw e.0 (omega arith)) (λ e. rw e.0 (omega arith)) (eq_split (suc i) n)

pub before_lt : (n i : ℕ) → i < n → place_before n i < n
unfolding place_before
before_lt n i h = ⊎_elim (λ e. rw e.0 (omega arith)) (λ e. rw e.0 (omega arith)) (eq_split i 0)

after_before : (n i : ℕ) → i < n → place_after n (place_before n i) ≡ i
unfolding place_after place_before
after_before n i h =
    ⊎_elim
    (λ e. rw (e.0, eq-eqb (suc (n - 1)) n (omega arith)) (omega arith))
    (λ e. rw (e.0, ne_eqb (suc (i - 1)) n (omega arith)) (omega arith))
    (eq_split i 0)

after_after : (n i : ℕ) → i < n → 3 ≤ n → place_after n (place_after n i) ≢ i
unfolding place_after
after_after n i h t =
    ⊎_elim
    (λ e. rw (e.0, ne_eqb 1 n (omega arith)) (omega arith))
    (λ e. rw e.0 (⊎_elim (λ g. rw g.0 (omega arith)) (λ g. rw g.0 (omega arith)) (eq_split (suc (suc i)) n)))
    (eq_split (suc i) n)

module _ (l : List ℕ) where
  pub next_at : (x : ℕ) → next l x ≡ get_or l (place_after (length l) (place x l)) 0
  unfolding next
  next_at x = refl

  pub prev_at : (x : ℕ) → prev l x ≡ get_or l (place_before (length l) (place x l)) 0
  unfolding prev
  prev_at x = refl

  pub next_in : (x : ℕ) → x ∈ l → next l x ∈ l
  next_in x m = rw (next_at x) (get_or_in l _ 0 (after_lt (length l) (place x l) (place_lt x l m)))

  pub prev_in : (x : ℕ) → x ∈ l → prev l x ∈ l
  prev_in x m = rw (prev_at x) (get_or_in l _ 0 (before_lt (length l) (place x l) (place_lt x l m)))

  module _ (o : Distinct l) where
    -- next of the entry at a place
    pub next_get_or : (i : ℕ) → i < length l → next l (get_or l i 0) ≡ get_or l (place_after (length l) i) 0
    next_get_or i h = next_at (get_or l i 0) ∙ ap (λ k. get_or l (place_after (length l) k) 0) (place_get_or l i 0 o h)

    pub next_prev : (x : ℕ) → x ∈ l → next l (prev l x) ≡ x
    next_prev x m =
        let b = before_lt (length l) (place x l) (place_lt x l m) in
        rw (prev_at x) (next_get_or _ b ∙ rw (after_before (length l) (place x l) (place_lt x l m)) (get_or_place x l 0 m))

    pub next_next_ne : (x : ℕ) → x ∈ l → 3 ≤ length l → next l (next l x) ≢ x
    next_next_ne x m t e =
        let n : ℕ = length l in
        let i : ℕ = place x l in
        let h : place_after n i < n = after_lt n i (place_lt x l m) in
        let g : place_after n (place_after n i) < n = after_lt n (place_after n i) h in
        let two : next l (next l x) ≡ get_or l (place_after n (place_after n i)) 0 = ap (next l) (next_at x) ∙ next_get_or (place_after n i) h in
        after_after n i (place_lt x l m) t (sym (place_get_or l (place_after n (place_after n i)) 0 o g) ∙ ap (λ y. place y l) (sym two ∙ e))

-- ---- under a map that is one to one on the ring

module _ (f : ℕ → ℕ) where
  pub map_in : (x : ℕ) (l : List ℕ) → x ∈ l → f x ∈ map f l
  map_in x [] m = absurd (not-suc-le-zero m)
  map_in x (a ∷ l) m =
      ⊎_elim
      (λ e. rw (eq-eqb (f x) (f a) (ap f e.1)) (omega arith))
      (λ e. omega (arith, map_in x l (in_cons x a l m e.1)))
      (eq_split x a)

  pub in_map : (y : ℕ) (l : List ℕ) → y ∈ map f l → (x : ℕ) × (x ∈ l) × (y ≡ f x)
  in_map y [] m = absurd (not-suc-le-zero m)
  in_map y (a ∷ l) m = go (λ n. in_map y l n) (eq_split y (f a))
    where
      go : (y ∈ map f l → (x : ℕ) × (x ∈ l) × (y ≡ f x)) → ((eqb y (f a) ≡ true) × (y ≡ f a)) ⊎ ((eqb y (f a) ≡ false) × (y ≢ f a)) → (x : ℕ) × (x ∈ a ∷ l) × (y ≡ f x)
      go ih (inl e) = (a, here a l, e.1)
      go ih (inr e) = let r = ih (in_cons y (f a) (map f l) m e.1) in (r.0, there r.0 a l r.1, r.2)

  abbrev OneToOne : List ℕ → Type 0
  OneToOne l = (x y : ℕ) → x ∈ l → y ∈ l → f x ≡ f y → x ≡ y

  one_tail : (a : ℕ) (l : List ℕ) → OneToOne (a ∷ l) → OneToOne l
  one_tail a l o x y m n e = o x y (there x a l m) (there y a l n) e

  times_map : (x : ℕ) (l : List ℕ) → ((y : ℕ) → y ∈ l → f x ≡ f y → x ≡ y) → times (f x) (map f l) ≡ times x l
  times_map x [] o = refl
  times_map x (a ∷ l) o =
      ⊎_elim
      (λ e. rw (e.0, eq-eqb (f x) (f a) (ap f e.1)) (omega (arith, times_map x l (λ y m. o y (there y a l m)))))
      (λ e. rw (e.0, ne_eqb (f x) (f a) (λ q. e.1 (o a (here a l) q))) (omega (arith, times_map x l (λ y m. o y (there y a l m)))))
      (eq_split x a)

  pub distinct_map : (l : List ℕ) → OneToOne l → Distinct l → Distinct (map f l)
  distinct_map l o d y =
      ⊎_elim
      (λ h. let r = in_map y l h.1 in rw r.2 (omega (arith, times_map r.0 l (λ z m. o r.0 z r.1 m), d r.0)))
      (λ h. omega arith)
      (lt_split 0 (times y (map f l)))

  place_map : (x : ℕ) (l : List ℕ) → OneToOne l → x ∈ l → place (f x) (map f l) ≡ place x l
  place_map x [] o m = absurd (not-suc-le-zero m)
  place_map x (a ∷ l) o m =
      ⊎_elim
      (λ e. rw (e.0, eq-eqb (f x) (f a) (ap f e.1)))
      (λ e. rw (e.0, ne_eqb (f x) (f a) (λ q. e.1 (o x a m (here a l) q))) (ap suc (place_map x l (one_tail a l o) (in_cons x a l m e.1))))
      (eq_split x a)

  pub get_d_map : (l : List ℕ) (i d d' : ℕ) → i < length l → get_or (map f l) i d ≡ f (get_or l i d')
  get_d_map [] i d d' h = absurd (not-suc-le-zero h)
  get_d_map (a ∷ l) zero d d' h = refl
  get_d_map (a ∷ l) (suc i) d d' h = get_d_map l i d d' (omega arith)

  pub next_map : (x : ℕ) (l : List ℕ) → OneToOne l → x ∈ l → next (map f l) (f x) ≡ f (next l x)
  next_map x l o m =
      next_at (map f l) (f x)
      ∙ ap₂ (λ n i. get_or (map f l) (place_after n i) 0) (length-map l f) (place_map x l o m)
      ∙ get_d_map l _ 0 0 (after_lt (length l) (place x l) (place_lt x l m))
      ∙ ap f (sym (next_at l x))

-- ---- a ring whose entries are written out

abbrev pub All : (ℕ → Type 0) → List ℕ → Type 0
All P [] = Unit {0}
All P (a ∷ l) = P a × All P l

pub all_in : (P : ℕ → Type 0) (l : List ℕ) → All P l → (x : ℕ) → x ∈ l → P x
all_in P [] h x m = absurd (not-suc-le-zero m)
all_in P (a ∷ l) h x m = ⊎_elim (λ e. subst P (sym e.1) h.0) (λ e. all_in P l h.1 x (in_cons x a l m e.1)) (eq_split x a)

-- entries that differ from all that come later
abbrev pub Apart : List ℕ → Type 0
Apart [] = Unit {0}
Apart (a ∷ l) = All (λ x. a ≢ x) l × Apart l

pub apart_distinct : (l : List ℕ) → Apart l → Distinct l
apart_distinct [] h x = omega arith
apart_distinct (a ∷ l) h x =
    ⊎_elim
    (λ e. rw e.0 (omega (arith, none x e.1)))
    (λ e. rw e.0 (omega (arith, apart_distinct l h.1 x)))
    (eq_split x a)
  where
    none : (x : ℕ) → x ≡ a → times x l ≡ 0
    none x e = ⊎_elim (λ g. absurd (all_in (λ y. a ≢ y) l h.0 x g.1 (sym e))) (λ g. omega arith) (lt_split 0 (times x l))
