-- Rings as circular lists (document 01, "Ring rules"): which entry follows and which precedes each place, that next and prev undo one another,
-- and what `place_of` says of an entry that is there and of one that is absent.
-- Assumes nothing.
use mathlib.Core.Path.{◌≡◌, refl, sym, ap, ◌∙◌}
use mathlib.Core.List.{List, [], ◌∷◌}
use mathlib.Core.Logic.{⊎_elim, ◌↔◌}
use Prim.Native.Nat.{ℕ, suc, ◌≤◌, ◌<◌}
use native.Mathlib.Omega.{arith}
use lib.ListN.{length, get_or}
use borrow.Author.Tests.{eq-eqb, ne_eqb, ltb-false}
use Rattle.mesh.specs.Ring.{times, ◌∈◌, has, Distinct, place, place_of, place_after, place_before, next, prev}
use Rattle.mesh.proofs.Lists.{eq_split, lt_split}
use Rattle.mesh.proofs.Rings.{place_lt, get_or_place, place_get_or, after_lt, next_at, prev_at, next_get_or, next_prev}
use Rattle.mesh.proofs.Places.{in_place, placed, absent, has_in, place_of_at, place_of_absent}
use Rattle.std.specs.declared.option.Option.TheVariants.{Some, None}

-- ---- a ring of one has itself as both

pub next_of_one : (x : ℕ) → next (x ∷ []) x ≡ x
unfolding next place_after
next_of_one x = rw (eq-eqb x x refl)

pub prev_of_one : (x : ℕ) → prev (x ∷ []) x ≡ x
unfolding prev place_before
prev_of_one x = rw (eq-eqb x x refl)

-- ---- next and prev of the entry at a place

before_after : (n i : ℕ) → i < n → place_before n (place_after n i) ≡ i
unfolding place_after place_before
before_after n i h =
    ⊎_elim (λ e. rw e.0 (omega arith)) (λ e. rw (e.0, ne_eqb (suc i) 0 (omega arith)) (omega arith)) (eq_split (suc i) n)

module _ (l : List ℕ) (o : Distinct l) where
  pub next_inner : (i : ℕ) → suc i < length l → next l (get_or l i 0) ≡ get_or l (suc i) 0
  unfolding place_after
  next_inner i h = next_get_or l o i (omega arith) ∙ rw (ne_eqb (suc i) (length l) (omega arith))

  pub next_of_last : (i : ℕ) → suc i ≡ length l → next l (get_or l i 0) ≡ get_or l 0 0
  unfolding place_after
  next_of_last i h = next_get_or l o i (omega arith) ∙ rw (eq-eqb (suc i) (length l) h)

  prev_get_or : (i : ℕ) → i < length l → prev l (get_or l i 0) ≡ get_or l (place_before (length l) i) 0
  prev_get_or i h = prev_at l (get_or l i 0) ∙ ap (λ k. get_or l (place_before (length l) k) 0) (place_get_or l i 0 o h)

  pub prev_inner : (i : ℕ) → suc i < length l → prev l (get_or l (suc i) 0) ≡ get_or l i 0
  unfolding place_before
  prev_inner i h = prev_get_or (suc i) h ∙ rw (ne_eqb (suc i) 0 (omega arith)) (ap (λ k. get_or l k 0) (omega arith))

  pub prev_of_first : (i : ℕ) → suc i ≡ length l → prev l (get_or l 0 0) ≡ get_or l i 0
  unfolding place_before
  prev_of_first i h = prev_get_or 0 (omega arith) ∙ ap (λ k. get_or l k 0) (omega arith)

  -- ---- each undoes the other

  pub next_of_prev : (x : ℕ) → x ∈ l → next l (prev l x) ≡ x
  next_of_prev = next_prev l o

  pub prev_of_next : (x : ℕ) → x ∈ l → prev l (next l x) ≡ x
  prev_of_next x m =
      let h : place x l < length l = place_lt x l m in
      ap (prev l) (next_at l x)
      ∙ prev_get_or (place_after (length l) (place x l)) (after_lt (length l) (place x l) h)
      ∙ ap (λ k. get_or l k 0) (before_after (length l) (place x l) h)
      ∙ get_or_place x l 0 m

  -- so what follows tells what precedes
  pub prev_is_what_it_follows : (x y : ℕ) → x ∈ l → next l x ≡ y → prev l y ≡ x
  prev_is_what_it_follows x y m e = ap (prev l) (sym e) ∙ prev_of_next x m

-- ---- there, or absent by name

module _ (x : ℕ) (l : List ℕ) where
  pub absent_by_name : (place_of x l ≡ None) ↔ (x ∈ l → ⊥)
  unfolding has
  absent_by_name = (
    (λ e m. let a : times x l ≤ 0 = ltb-false 0 (times x l) (absent x l (sym e)) in omega arith),
    (λ n. sym (place_of_absent x l (place x l) refl (not_there n))),
  )
    where
      not_there : (x ∈ l → ⊥) → length l ≤ place x l
      not_there n = ⊎_elim (λ h. absurd (n (in_place x l h.1))) (λ h. h.1) (lt_split (place x l) (length l))

  pub placed_by_name : Distinct l → (i : ℕ) → (place_of x l ≡ Some i) ↔ ((i < length l) × (get_or l i 0 ≡ x))
  placed_by_name o i = (
    (λ e. let p = placed x l i (sym e) in (p.2, ap (λ k. get_or l k 0) p.1 ∙ get_or_place x l 0 (has_in x l p.0))),
    (λ e. sym (place_of_at x l i (sym (place_get_or l i 0 o e.0) ∙ ap (λ y. place y l) e.1) e.0)),
  )
