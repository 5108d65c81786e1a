-- From loops over places to the definitions: what a search's answer tells of `place`, `has`, `place_of`, `next`, `prev`, `follows` and `bad_at`.
-- Assumes nothing.
use mathlib.Core.Path.{◌≡◌, refl, sym, ◌∙◌}
use mathlib.Core.Bool.{Bool, true, false, cond, ◌&&◌}
use mathlib.Core.List.{List, [], ◌∷◌}
use mathlib.Core.Logic.{⊎_elim}
use Prim.Native.Nat.{ℕ, zero, suc, ◌+◌, ◌-◌, ◌≤◌, ◌<◌}
use native.Mathlib.Nat.{not-suc-le-zero, le_antisymm}
use native.Mathlib.Omega.{arith}
use lib.Dec.{eqb, ltb}
use lib.ListN.{length, get_or}
use borrow.Author.Tests.{eq-eqb, ne_eqb, eqb-true, eqb-false, lt-ltb, ltb-true, ltb-false, le-leb, lt-leb, leb-false}
use Rattle.mesh.specs.Ring.{times, ◌∈◌, has, place, place_of, place_after, place_before, next, prev, Follows, follows}
use Rattle.mesh.specs.Tests.{repeat_at, bad_at}
use Rattle.mesh.proofs.Lists.{eq_split, lt_split, there}
use Rattle.mesh.proofs.First.{Clear, or_false, true_not_false}
use Rattle.mesh.proofs.Rings.{place_lt, get_or_place}
use Rattle.std.specs.declared.option.Option.TheVariants.{Some, None}

-- x stands at place i: what a search tests
abbrev pub holds : List ℕ → ℕ → ℕ → Bool
holds l x i = eqb (get_or l i 0) x

-- ---- the place that a search finds

pub place_le : (x : ℕ) (l : List ℕ) (i : ℕ) → i < length l → get_or l i 0 ≡ x → place x l ≤ i
place_le x [] i h e = absurd (not-suc-le-zero h)
place_le x (a ∷ l) zero h e = rw (eq-eqb x a (sym e)) (omega arith)
place_le x (a ∷ l) (suc i) h e = ⊎_elim (λ q. rw q.0 (omega arith)) (λ q. rw q.0 (omega (arith, place_le x l i (omega arith) e))) (eq_split x a)

pub place_most : (x : ℕ) (l : List ℕ) → place x l ≤ length l
place_most x [] = omega arith
place_most x (a ∷ l) = ⊎_elim (λ q. rw q.0 (omega arith)) (λ q. rw q.0 (omega (arith, place_most x l))) (eq_split x a)

pub in_place : (x : ℕ) (l : List ℕ) → place x l < length l → x ∈ l
in_place x [] h = absurd (not-suc-le-zero h)
in_place x (a ∷ l) h = ⊎_elim (λ q. rw q.0 (omega arith)) (λ q. there x a l (in_place x l (down (rw q.0 at h)))) (eq_split x a)
  where
    down : suc (place x l) < suc (length l) → place x l < length l
    down k = omega arith

not_before : (x : ℕ) (l : List ℕ) (i : ℕ) → Clear (holds l x) i → i ≤ length l → i ≤ place x l
not_before x l i c h =
    ⊎_elim
    (λ q. absurd (true_not_false (eq-eqb (get_or l (place x l) 0) x (get_or_place x l 0 (in_place x l (omega arith)))) (c.below (place x l) q.1)))
    (λ q. q.1)
    (lt_split (place x l) i)

pub place_is : (x : ℕ) (l : List ℕ) {i : ℕ} → Clear (holds l x) i → i < length l → get_or l i 0 ≡ x → i ≡ place x l
place_is x l {i} c h e = le_antisymm (not_before x l i c (omega arith)) (place_le x l i h e)

pub place_end : (x : ℕ) (l : List ℕ) {i : ℕ} → Clear (holds l x) i → i ≤ length l → length l ≤ i → i ≡ place x l
place_end x l {i} c h k = le_antisymm (not_before x l i c h) (let m = place_most x l in omega arith)

-- ---- going round

pub after_last : (n i : ℕ) → i + 1 ≡ n → 0 ≡ place_after n i
unfolding place_after
after_last n i e = rw (eq-eqb (suc i) n (omega arith))

pub after_other : (n i : ℕ) → (i + 1 ≡ n → ⊥) → i + 1 ≡ place_after n i
unfolding place_after
after_other n i e = rw (ne_eqb (suc i) n (λ q. e (omega arith))) (omega arith)

pub before_first : (n i : ℕ) → i ≡ 0 → n - 1 ≡ place_before n i
unfolding place_before
before_first n i e = rw (eq-eqb i 0 e)

pub before_other : (n i : ℕ) → (i ≡ 0 → ⊥) → i - 1 ≡ place_before n i
unfolding place_before
before_other n i e = rw (ne_eqb i 0 e)

-- ---- what the place tells

pub has_in : (x : ℕ) (l : List ℕ) → has x l ≡ true → x ∈ l
unfolding has
has_in x l e = ltb-true 0 (times x l) e

pub in_has : (x : ℕ) (l : List ℕ) → x ∈ l → has x l ≡ true
unfolding has
in_has x l m = lt-ltb 0 (times x l) m

module _ (x : ℕ) (l : List ℕ) (i : ℕ) (e : i ≡ place x l) where
  pub has_yes : i < length l → has x l ≡ true
  has_yes h = in_has x l (in_place x l (omega arith))

  pub has_no : length l ≤ i → has x l ≡ false
  unfolding has
  has_no h = ⊎_elim (λ q. absurd (let k = place_lt x l q.1 in omega arith)) (λ q. q.0) (lt_split 0 (times x l))

  pub has_test : ltb i (length l) ≡ has x l
  has_test = ⊎_elim (λ q. q.0 ∙ sym (has_yes q.1)) (λ q. q.0 ∙ sym (has_no q.1)) (lt_split i (length l))

  pub place_of_at : i < length l → Some i ≡ place_of x l
  unfolding place_of
  place_of_at h = rw (has_yes h, ← e)

  pub place_of_absent : length l ≤ i → None ≡ place_of x l
  unfolding place_of
  place_of_absent h = rw (has_no h)

  pub next_is : (j : ℕ) → j ≡ place_after (length l) i → get_or l j 0 ≡ next l x
  unfolding next
  next_is j q = rw (← e, ← q)

  pub prev_is : (j : ℕ) → j ≡ place_before (length l) i → get_or l j 0 ≡ prev l x
  unfolding prev
  prev_is j q = rw (← e, ← q)

  pub follows_at : (y j : ℕ) → i < length l → j ≡ place_after (length l) i → eqb (get_or l j 0) y ≡ follows l x y
  unfolding follows next
  follows_at y j h q = rw (has_yes h, ← e, ← q)

  pub follows_absent : (y : ℕ) → length l ≤ i → false ≡ follows l x y
  unfolding follows
  follows_absent y h = rw (has_no h)

pub placed : (x : ℕ) (l : List ℕ) (i : ℕ) → Some i ≡ place_of x l → (has x l ≡ true) × (i ≡ place x l) × (i < length l)
unfolding place_of
placed x l i e = go (has x l) refl e
  where
    go : (b : Bool) → has x l ≡ b → Some i ≡ cond b (Some (place x l)) None → (has x l ≡ true) × (i ≡ place x l) × (i < length l)
    go true h q = let p : i ≡ place x l = cc in (h, p, let k = place_lt x l (has_in x l h) in omega arith)
    go false h q = absurd (let z : ◌≡◌ {A = ℕ} 0 1 = cc in omega arith)

pub absent : (x : ℕ) (l : List ℕ) → None ≡ place_of x l → has x l ≡ false
unfolding place_of
absent x l e = go (has x l) refl e
  where
    go : (b : Bool) → has x l ≡ b → None ≡ cond b (Some (place x l)) None → has x l ≡ false
    go true h q = absurd (let z : ◌≡◌ {A = ℕ} 0 1 = cc in omega arith)
    go false h q = h

pub and_both : (a b : Bool) → a && b ≡ true → (a ≡ true) × (b ≡ true)
and_both true b e = (refl, e)
and_both false b e = (e, cc)

pub follows_true : (l : List ℕ) (x y : ℕ) → follows l x y ≡ true → Follows l x y
unfolding follows
follows_true l x y e = let b = and_both (has x l) (eqb (next l x) y) e in (has_in x l b.0, eqb-true (next l x) y b.1)

pub true_follows : (l : List ℕ) (x y : ℕ) → Follows l x y → follows l x y ≡ true
unfolding follows
true_follows l x y f = rw (in_has x l f.0) (eq-eqb (next l x) y f.1)

-- ---- a bad place

module _ (n v : ℕ) (l : List ℕ) (i : ℕ) where
  pub bad_vertex_lem : n ≤ get_or l i 0 → true ≡ bad_at n v l i
  unfolding bad_at
  bad_vertex_lem h = rw (le-leb n (get_or l i 0) h)

  pub bad_self : get_or l i 0 < n → get_or l i 0 ≡ v → true ≡ bad_at n v l i
  unfolding bad_at
  bad_self h e = rw (lt-leb n (get_or l i 0) h, eq-eqb (get_or l i 0) v e)

  pub bad_repeat : get_or l i 0 < n → (get_or l i 0 ≡ v → ⊥) → (k : ℕ) → k ≡ place (get_or l i 0) l → ltb k i ≡ bad_at n v l i
  unfolding bad_at repeat_at
  bad_repeat h d k e = rw (lt-leb n (get_or l i 0) h, ne_eqb (get_or l i 0) v d, e)

  -- and where it is none
  pub bad_false : bad_at n v l i ≡ false → (get_or l i 0 < n) × (get_or l i 0 ≡ v → ⊥) × (i ≤ place (get_or l i 0) l)
  unfolding bad_at repeat_at
  bad_false e =
      let a = or_false _ _ e in
      let b = or_false _ _ a.1 in
      (leb-false n (get_or l i 0) a.0, eqb-false (get_or l i 0) v b.0, ltb-false (place (get_or l i 0) l) i b.1)
