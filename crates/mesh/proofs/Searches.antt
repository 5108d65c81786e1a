-- From chains over a range or a list to the definitions: what `find`, `any`, `all`, `position` and `sum` tell of `first`, `some`, `place`, `has` and `sum`.
-- Assumes nothing.
use mathlib.Core.Path.{◌≡◌, refl, sym, ap, subst, ◌∙◌}
use mathlib.Core.Bool.{Bool, true, false}
use mathlib.Core.List.{List, ◌∷◌, map}
use Prim.Native.Nat.{ℕ, zero, suc, ◌+◌, ◌-◌, ◌≤◌, ◌<◌}
use native.Mathlib.Numerals.{add-one}
use native.Mathlib.Omega.{arith}
use denote.Param.Members.{Mut}
use denote.Ref.{Bor}
use Rattle.std.specs.Fn.{Called, CalledAt}
use Rattle.std.specs.Iterator.{YieldsThen, Drains}
use Rattle.std.specs.Iterator.Runs.{EachRunFrom}
use Rattle.std.specs.List.{fold, sum_by, FoldsTo, range_with_len, AllWithin, HoldsAt}
use Rattle.std.specs.Option.{MatchOption, unwrap_or}
use Rattle.std.specs.Bool.{⊤, MatchBool}
use Rattle.std.specs.declared.option.Option.{Option}
use Rattle.std.specs.declared.option.Option.TheVariants.{Some, None}
use Rattle.std.specs.declared.ops.Range.{Range}
use Rattle.std.proofs.iter.Yields.{fronts, nat_range_steps}
use Rattle.std.proofs.lemmas.Iterator.{YieldsList, YieldsList-from_range, cases_from_all, cases_from_any, IsFirst-from_position, index_from_first, first_from_Range}
use Rattle.std.proofs.lemmas.Iterator.Consumers.{sum_by_from_yields_List, fits_by_from_yields_list}
use Rattle.std.proofs.lemmas.List.Sums.{sum_by_more}
use Rattle.std.proofs.lemmas.List.FromFn.{length-range_with_len, get_or-range_with_len}
use lib.Dec.{eqb}
use lib.ListN.{length, get_or, take}
use borrow.Author.Tests.{eq-eqb, ne_eqb, eqb-true, eqb-false}
use Rattle.mesh.specs.Ring.{place}
use Rattle.mesh.specs.Search.{sum, first, some}
use Rattle.mesh.proofs.First.{first_is, first_end, some_true, none_some}

-- ---- ranges

less_none : (n : ℕ) → n - 0 ≡ n
less_none n = omega arith

zero_more : (k : ℕ) → 0 + k ≡ k
zero_more k = omega arith

-- the number that `find` gives over 0, .., n - 1, or n
pub first_found : {F : Type 0} {g : Mut F (Bor ℕ × Unit {0}) Bool} (p : ℕ → Bool) (n : ℕ) (u : Range ℕ) (f : F) (r : Option ℕ)
    → (xs : List ℕ) × (j : F) × YieldsThen nat_range_steps (record { start = 0; end = n }) xs r u × FoldsTo (λ p x q. CalledAt g p x false q) f xs j × MatchOption r ⊤ (λ x. (h : F) × CalledAt g j x true h)
    → ((x : ℕ) (b : Bool) (q : F) → CalledAt g f x b q → (q ≡ f) × (b ≡ p x))
    → unwrap_or r n ≡ first p n
first_found p n u f r ran says =
    go r (first_from_Range (record { start = 0; end = n }) u f r (λ x. p x ≡ true) (λ x. p x ≡ false) ran
    (λ x q k. sym (says x true q k).1) (λ x q k. ((says x false q k).0, sym (says x false q k).1)))
  where
    go : (o : Option ℕ) → MatchOption o ((k : ℕ) → 0 ≤ k → k < n → p k ≡ false) (λ i. (0 ≤ i) × (i < n) × (p i ≡ true) × ((k : ℕ) → 0 ≤ k → k < i → p k ≡ false)) → unwrap_or o n ≡ first p n
    go None h = first_end (record { below = λ k l. h k (omega arith) l }) (omega arith) (omega arith)
    go (Some i) h = first_is (record { below = λ k l. h.3 k (omega arith) l }) h.1 h.2

-- what `any` answers over 0, .., n - 1
pub some_found : {F : Type 0} {g : Mut F (ℕ × Unit {0}) Bool} (p : ℕ → Bool) (n : ℕ) (u : Range ℕ) (f : F) (r : Bool)
    → (xs : List ℕ) × (o : Option ℕ) × (j : F) × YieldsThen nat_range_steps (record { start = 0; end = n }) xs o u × FoldsTo (λ p x q. Called g p (x, tt) false q) f xs j × MatchOption o (r ≡ false) (λ x. (r ≡ true) × ((h : F) × Called g j (x, tt) true h))
    → ((x : ℕ) (b : Bool) (q : F) → Called g f (x, tt) b q → (q ≡ f) × (b ≡ p x))
    → r ≡ some p n
some_found p n u f r ran says =
    go r (cases_from_any u f r (λ x. p x ≡ true) (λ x. p x ≡ false) ran (YieldsList-from_range 0 n n refl (less_none n))
    (λ x q k. sym (says x true q k).1) (λ x q k. ((says x false q k).0, sym (says x false q k).1)))
  where
    at : (q : ℕ → Type 0) (k : ℕ) → k < n → q (get_or (range_with_len 0 n) k 0) → q k
    at q k l h = subst q (get_or-range_with_len 0 n k 0 l ∙ zero_more k) h

    go : (b : Bool) → MatchBool b ((k : ℕ) × (k < length (range_with_len 0 n)) × HoldsAt (λ x. p x ≡ true) (range_with_len 0 n) k) (AllWithin (λ x. p x ≡ false) (range_with_len 0 n) 0 (length (range_with_len 0 n))) → b ≡ some p n
    go true h = let l : h.0 < n = omega (arith, h.1, length-range_with_len 0 n) in sym (some_true p n h.0 l (at (λ x. p x ≡ true) h.0 l (h.2 0)))
    go false h = sym (none_some p n (λ k l. at (λ x. p x ≡ false) k l (h k 0 (omega arith) (omega (arith, length-range_with_len 0 n)))))

-- where `all` answers yes over a, .., n - 1, each of these numbers has the fact
pub each_between : {F : Type 0} {g : Mut F (ℕ × Unit {0}) Bool} (P : ℕ → Type 0) (a n : ℕ) (u : Range ℕ) (f : F) (r : Bool)
    → (xs : List ℕ) × (o : Option ℕ) × (j : F) × YieldsThen nat_range_steps (record { start = a; end = n }) xs o u × FoldsTo (λ p x q. Called g p (x, tt) true q) f xs j × MatchOption o (r ≡ true) (λ x. (r ≡ false) × ((h : F) × Called g j (x, tt) false h))
    → ((x : ℕ) (q : F) → Called g f (x, tt) true q → (q ≡ f) × P x)
    → r ≡ true → (k : ℕ) → a ≤ k → k < n → P k
each_between P a n u f r ran says e k m l =
    go r (cases_from_all u f r P (λ x. ⊤) ran (YieldsList-from_range a n (n - a) refl refl) says (λ x q h. tt)) e
  where
    go : (b : Bool) → MatchBool b (AllWithin P (range_with_len a (n - a)) 0 (length (range_with_len a (n - a)))) ((k : ℕ) × (k < length (range_with_len a (n - a))) × HoldsAt (λ x. ⊤) (range_with_len a (n - a)) k) → b ≡ true → P k
    go true h e =
        let i : ℕ = k - a in
        let here : a + i ≡ k = omega arith in
        subst P (get_or-range_with_len a (n - a) i 0 (omega arith) ∙ here) (h i 0 (omega arith) (omega (arith, length-range_with_len a (n - a))))
    go false h e = let z : ⊥ = cc in absurd z

-- the same over 0, .., n - 1
pub each_found : {F : Type 0} {g : Mut F (ℕ × Unit {0}) Bool} (P : ℕ → Type 0) (n : ℕ) (u : Range ℕ) (f : F) (r : Bool)
    → (xs : List ℕ) × (o : Option ℕ) × (j : F) × YieldsThen nat_range_steps (record { start = 0; end = n }) xs o u × FoldsTo (λ p x q. Called g p (x, tt) true q) f xs j × MatchOption o (r ≡ true) (λ x. (r ≡ false) × ((h : F) × Called g j (x, tt) false h))
    → ((x : ℕ) (q : F) → Called g f (x, tt) true q → (q ≡ f) × P x)
    → r ≡ true → (k : ℕ) → k < n → P k
each_found P n u f r ran says e k l = each_between P 0 n u f r ran says e k (omega arith) l

-- ---- rings

-- the place that `position` gives for x in a ring, or the ring's length
pub place_found : {F : Type 0} {g : Mut F (Bor ℕ × Unit {0}) Bool} {s : _} (x : ℕ) (l : List ℕ) (u : _) (f : F) (r : Option ℕ)
    → (xs : List (Bor ℕ)) × (o : Option (Bor ℕ)) × (j : F) × YieldsThen fronts s xs o u × FoldsTo (λ p y q. Called g p (y, tt) false q) f xs j × MatchOption o (r ≡ None) (λ y. (r ≡ Some (length xs)) × ((h : F) × Called g j (y, tt) true h))
    → YieldsList fronts (λ y. y.now) s l
    → ((y : Bor ℕ) (b : Bool) (q : F) → Called g f (y, tt) b q → (q ≡ f) × (b ≡ eqb y.now x))
    → unwrap_or r (length l) ≡ place x l
place_found x l u f r ran yields says =
    sym (index_from_first (place x) (λ y. eqb y x ≡ true) (λ y. eqb y x ≡ false) refl
    (λ y ys h. rw (eq-eqb x y (sym (eqb-true y x h))))
    (λ y ys h. miss y ys h) l r
    (IsFirst-from_position u f r (λ y. eqb y x ≡ true) (λ y. eqb y x ≡ false) ran yields
    (λ y q k. sym (says y true q k).1) (λ y q k. ((says y false q k).0, sym (says y false q k).1))))
  where
    miss : (y : ℕ) (ys : List ℕ) → eqb y x ≡ false → place x (y ∷ ys) ≡ place x ys + 1
    miss y ys h = rw (ne_eqb x y (λ e. eqb-false y x h (sym e))) (omega arith)

-- the first place that `position` gives for a test, or the list's length
pub first_place : {F : Type 0} {g : Mut F (Bor ℕ × Unit {0}) Bool} {s : _} (p : ℕ → Bool) (l : List ℕ) (u : _) (f : F) (r : Option ℕ)
    → (xs : List (Bor ℕ)) × (o : Option (Bor ℕ)) × (j : F) × YieldsThen fronts s xs o u × FoldsTo (λ p y q. Called g p (y, tt) false q) f xs j × MatchOption o (r ≡ None) (λ y. (r ≡ Some (length xs)) × ((h : F) × Called g j (y, tt) true h))
    → YieldsList fronts (λ y. y.now) s l
    → ((y : Bor ℕ) (b : Bool) (q : F) → Called g f (y, tt) b q → (q ≡ f) × (b ≡ p y.now))
    → unwrap_or r (length l) ≡ first (λ i. p (get_or l i 0)) (length l)
first_place p l u f r ran yields says =
    go r (IsFirst-from_position u f r (λ y. p y ≡ true) (λ y. p y ≡ false) ran yields
    (λ y q k. sym (says y true q k).1) (λ y q k. ((says y false q k).0, sym (says y false q k).1)))
  where
    go : (o : Option ℕ) → MatchOption o (AllWithin (λ y. p y ≡ false) l 0 (length l)) (λ i. (i < length l) × HoldsAt (λ y. p y ≡ true) l i × AllWithin (λ y. p y ≡ false) l 0 i)
        → unwrap_or o (length l) ≡ first (λ i. p (get_or l i 0)) (length l)
    go None h = first_end (record { below = λ k m. h k 0 (omega arith) m }) (omega arith) (omega arith)
    go (Some i) h = first_is (record { below = λ k m. h.2 k 0 (omega arith) m }) h.0 (h.1 0)

-- ---- sums

-- the sum of the first n numbers of a list, each of them taken through h
taken : (h : ℕ → ℕ) (l : List ℕ) (n : ℕ) → n ≤ length l → sum_by h (take n l) ≡ sum (λ i. h (get_or l i 0)) n
taken h l zero m = refl
taken h l (suc n) m = ap (λ (k : ℕ). sum_by h (take k l)) (sym (add-one n)) ∙ sum_by_more h l n 0 (omega arith) ∙ ap (λ (s : ℕ). s + h (get_or l n 0)) (taken h l n (omega arith))

module _ {S : Type 0} {steps : S → Option ℕ → S → Type 0} (h : ℕ → ℕ) (l : List ℕ) (n : ℕ) (within : n ≤ length l) (s : S) (yields : YieldsList steps (λ x. x) s (map h (take n l))) where
  -- what `sum` answers over them
  pub sum_found : (r : ℕ) → (xs : List ℕ) × (⊤ → Drains steps s xs) × (r ≡ fold (λ a x. a + x) 0 xs) → r ≡ sum (λ i. h (get_or l i 0)) n
  sum_found r ran = sum_by_from_yields_List h (take n l) s r ran yields ∙ taken h l n within

  -- and that it fits
  pub sum_fits : (top : ℕ) → sum (λ i. h (get_or l i 0)) n < top → EachRunFrom steps s (λ p. fold (λ a x. a + x) 0 p.items < top)
  sum_fits top m = fits_by_from_yields_list h (take n l) s top yields (omega (arith, taken h l n within))
