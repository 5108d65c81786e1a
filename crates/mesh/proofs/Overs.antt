-- The entries of a ring over a number: how a loop counts them, how they are met one by one in ascending order, and how the least one is found. Assumes nothing.
use mathlib.Core.Path.{◌≡◌, refl, ap, ◌∙◌}
use mathlib.Core.List.{List, [], ◌∷◌, ◌++◌}
use mathlib.Core.Logic.{◌⊎◌, inl, inr, ⊎_elim}
use Prim.Native.Nat.{ℕ, suc, ◌+◌, ◌≤◌, ◌<◌}
use native.Mathlib.Numerals.{add-one}
use native.Mathlib.Omega.{arith}
use lib.ListN.{length, get_or, take, length-append}
use lib.Seq.{take-suc, take_all}
use borrow.Author.Tests.{lt-ltb, le-ltb}
use Rattle.mesh.specs.Limits.{place_bound}
use Rattle.mesh.specs.Numbering.{below}
use Rattle.mesh.specs.Mesh.{over}
use Rattle.mesh.proofs.Lists.{lt_split, below_suc, climbs}
use Rattle.mesh.proofs.Ranks.{over_append, rank_high, rank_low}

-- ---- one place further

module _ (p : ℕ) (l : List ℕ) (i : ℕ) (h : i < length l) where
  over_one : over p (take (i + 1) l) ≡ over p (take i l) ++ over p (get_or l i 0 ∷ [])
  over_one = rw (add-one i, take-suc l i 0) (over_append p (take i l) (get_or l i 0 ∷ []))

  pub over_skip : get_or l i 0 ≤ p → length (over p (take (i + 1) l)) ≡ length (over p (take i l))
  over_skip a = ap length over_one ∙ length-append (over p (take i l)) (over p (get_or l i 0 ∷ [])) ∙ rw (le-ltb p (get_or l i 0) a) (omega arith)

  pub over_more : p < get_or l i 0 → length (over p (take (i + 1) l)) ≡ length (over p (take i l)) + 1
  over_more a = ap length over_one ∙ length-append (over p (take i l)) (over p (get_or l i 0 ∷ [])) ∙ rw (lt-ltb p (get_or l i 0) a)

-- ---- those over p are those up to `last` and those over `last`

pub over_split : (p last q : ℕ) (l : List ℕ) → p ≤ last → last < q → below q (over p l) ≡ below (suc last) (over p l) + below q (over last l)
over_split p last q [] h g = refl
over_split p last q (a ∷ l) h g =
    ⊎_elim
    (λ u. rw (lt-ltb p a (omega arith), u.0, le-ltb a (suc last) (omega arith)) (omega (arith, over_split p last q l h g)))
    (λ u.
    ⊎_elim
    (λ v. rw (v.0, u.0, lt-ltb a (suc last) (omega arith), lt-ltb a q (omega arith)) (omega (arith, over_split p last q l h g)))
    (λ v. rw (v.0, u.0) (over_split p last q l h g))
    (lt_split p a))
    (lt_split last a)

pub over_rest : (p last : ℕ) (l : List ℕ) → p ≤ last → length (over p l) ≡ below (suc last) (over p l) + length (over last l)
over_rest p last [] h = refl
over_rest p last (a ∷ l) h =
    ⊎_elim
    (λ u. rw (lt-ltb p a (omega arith), u.0, le-ltb a (suc last) (omega arith)) (omega (arith, over_rest p last l h)))
    (λ u.
    ⊎_elim
    (λ v. rw (v.0, u.0, lt-ltb a (suc last) (omega arith)) (omega (arith, over_rest p last l h)))
    (λ v. rw (v.0, u.0) (over_rest p last l h))
    (lt_split p a))
    (lt_split last a)

-- none over p is p or less
pub over_none : (p : ℕ) (l : List ℕ) → below (suc p) (over p l) ≡ 0
over_none p [] = refl
over_none p (a ∷ l) = ⊎_elim (λ u. rw (u.0, le-ltb a (suc p) (omega arith)) (omega (arith, over_none p l))) (λ u. rw u.0 (over_none p l)) (lt_split p a)

-- the least one over `last` has as many before it as are up to `last`
pub over_next : (p last q : ℕ) (l : List ℕ) → p ≤ last → last < q → below q (over last l) ≡ 0 → below q (over p l) ≡ below (suc last) (over p l)
over_next p last q l h g e = omega (arith, over_split p last q l h g)

-- where not all are passed, one is left
pub over_left : (p last : ℕ) (l : List ℕ) → p ≤ last → below (suc last) (over p l) < length (over p l) → 0 < length (over last l)
over_left p last l h g = omega (arith, over_rest p last l h)

-- ---- the least entry over `last` among the first i places, as a loop finds it

-- no entry over `last` among the first i places is below `best`; there is none, or `at` is the place of `best`
pub record Least (l : List ℕ) (last best at i : ℕ) : Type 0 where
  pub least : below best (over last (take i l)) ≡ 0
  pub found : ((length (over last (take i l)) ≡ 0) × (best ≡ place_bound)) ⊎ ((at < i) × ((get_or l at 0 ≡ best) × (last < best)))

module _ {l : List ℕ} {last best at i : ℕ} (k : Least l last best at i) (h : i < length l) where
  pub least_low : get_or l i 0 ≤ last → Least l last best at (i + 1)
  least_low a = record {
    least = rank_low last best l i h a ∙ k.least;
    found = ⊎_elim (λ n. inl (over_skip last l i h a ∙ n.0, n.1)) (λ f. inr (omega arith, f.1)) k.found;
  }

  pub least_high : last < get_or l i 0 → best ≤ get_or l i 0 → get_or l i 0 < place_bound → Least l last best at (i + 1)
  least_high a b c = record {
    least = rank_high last best l i h a b ∙ k.least;
    found = ⊎_elim (λ n. absurd (omega arith)) (λ f. inr (omega arith, f.1)) k.found;
  }

  pub least_new : last < get_or l i 0 → get_or l i 0 < best → Least l last (get_or l i 0) i (i + 1)
  least_new a b = record {
    least =
        let up : (j : ℕ) → below j (over last (take i l)) ≤ below (suc j) (over last (take i l)) = λ j. omega (arith, below_suc j (over last (take i l))) in
        let m = climbs (λ j. below j (over last (take i l))) up (get_or l i 0) best (omega arith) in
        let z = k.least in
        rank_high last (get_or l i 0) l i h a (omega arith) ∙ omega arith;
    found = inr (omega arith, (refl, a));
  }

pub least_none : (l : List ℕ) (last at : ℕ) → Least l last place_bound at 0
least_none l last at = record { least = refl; found = inl (refl, refl) }

pub least_end : {l : List ℕ} {last best at i : ℕ} → Least l last best at i → length l ≤ i → 0 < length (over last l)
    → (at < i) × ((last < get_or l at 0) × (below (get_or l at 0) (over last l) ≡ 0))
least_end {l} {last} {best} {at} {i} k h g =
    let e : take i l ≡ l = take_all i l h in
    ⊎_elim
    (λ n. absurd (omega (arith, rw e at n.0)))
    (λ f. (f.0, (rw f.1.0 f.1.1, rw (f.1.0, ← e) k.least)))
    k.found
