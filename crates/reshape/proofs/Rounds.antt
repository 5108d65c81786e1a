-- An entry put in and taken out again leaves the ring as it was; one taken out and put back after what preceded it leaves
-- the ring up to where it begins.
-- Assumes nothing.
use mathlib.Core.Path.{◌≡◌, refl, sym, ap, ◌∙◌, subst}
use mathlib.Core.List.{List, [], ◌∷◌, ◌++◌}
use mathlib.Core.Logic.{⊎_elim, ◌≢◌}
use Prim.Native.Nat.{ℕ, suc, ◌-◌, ◌≤◌, ◌<◌}
use native.Mathlib.Nat.{not-suc-le-zero}
use native.Mathlib.Omega.{arith}
use lib.ListN.{length, get_or}
use borrow.Author.Tests.{eq-eqb}
use Rattle.mesh.specs.Ring.{◌∈◌, Distinct, place, prev, Follows, SameRound}
use Rattle.mesh.specs.Edits.{closed, opened, erase, insert_after}
use Rattle.mesh.proofs.Lists.{eq_split, here, distinct_tail}
use Rattle.mesh.proofs.Rings.{in_cons, next_in, place_lt, get_or_place, place_get_or, get_or_in}
use Rattle.mesh.proofs.RingsGoRound.{prev_inner, prev_of_first, prev_is_what_it_follows}
use Rattle.mesh.proofs.EditPlaces.{opened_length, opened_at, opened_closed, closed_opened, closed_length, closed_before}
use Rattle.mesh.proofs.OpenedRings.{opened_distinct}
use Rattle.mesh.proofs.EditedEntries as X
use Rattle.mesh.proofs.SameRounds.{same_round}

opened_end : (l : List ℕ) (x : ℕ) → opened l (length l) x ≡ l ++ (x ∷ [])
unfolding opened
opened_end [] x = refl
opened_end (a ∷ l) x = ap (λ t. a ∷ t) (opened_end l x)

place_opened : (l : List ℕ) (o : Distinct l) (x : ℕ) (n : x ∈ l → ⊥) (i : ℕ) → i ≤ length l → place x (opened l i x) ≡ i
place_opened l o x n i h =
    ap (λ y. place y (opened l i x)) (sym (opened_at l i x 0 h))
    ∙ place_get_or (opened l i x) i 0 (opened_distinct l o x n i) (omega (arith, opened_length l i x))

pub erase_inserted : (l : List ℕ) → Distinct l → (a x : ℕ) → a ∈ l → (x ∈ l → ⊥) → erase x (insert_after a x l) ≡ l
erase_inserted l o a x m n =
    let i : ℕ = suc (place a l) in
    let h : i ≤ length l = place_lt a l m in
    let there : x ∈ opened l i x =
    subst (λ y. y ∈ opened l i x) (opened_at l i x 0 h) (get_or_in (opened l i x) i 0 (omega (arith, opened_length l i x))) in
    ap (erase x) (X.insert_after_there a l m x)
    ∙ X.erase_there x (opened l i x) there
    ∙ ap (closed (opened l i x)) (place_opened l o x n i h)
    ∙ closed_opened l i x h

-- b comes before c in the list itself
inner : (l : List ℕ) → Distinct l → (b c j : ℕ) → place c l ≡ suc j → Follows l b c → b ≢ c → c ∈ l → insert_after b c (erase c l) ≡ l
inner l o b c j e f d m =
    let h : place c l < length l = place_lt c l m in
    let i : suc j < length l = omega arith in
    let at : get_or l (suc j) 0 ≡ c = ap (λ k. get_or l k 0) (sym e) ∙ get_or_place c l 0 m in
    let before : get_or l j 0 ≡ b = sym (prev_inner l o j i) ∙ ap (prev l) at ∙ prev_is_what_it_follows l o b c f.0 f.1 in
    let t : List ℕ = closed l (suc j) in
    let is : erase c l ≡ t = X.erase_there c l m ∙ ap (closed l) e in
    let q : Distinct t = subst Distinct is (X.erase_distinct l o c m) in
    let long : suc (length t) ≡ length l = closed_length l (suc j) i in
    let b_at : get_or t j 0 ≡ b = closed_before l (suc j) j i (omega arith) ∙ before in
    let b_in : b ∈ t = subst (λ y. y ∈ t) b_at (get_or_in t j 0 (omega arith)) in
    let b-place : place b t ≡ j = ap (λ y. place y t) (sym b_at) ∙ place_get_or t j 0 q (omega arith) in
    ap (insert_after b c) is
    ∙ X.insert_after_there b t b_in c
    ∙ ap (λ k. opened t (suc k) c) b-place
    ∙ ap (opened t (suc j)) (sym at)
    ∙ opened_closed l (suc j) i

-- c is the first of the list, and b its last
outer : (c : ℕ) (t : List ℕ) → Distinct (c ∷ t) → (b : ℕ) → Follows (c ∷ t) b c → b ≢ c → insert_after b c t ≡ t ++ (c ∷ [])
outer c t o b f d =
    let q : Distinct t = distinct_tail c t o in
    let m : b ∈ t = in_cons b c t f.0 d in
    let p : place b t < length t = place_lt b t m in
    let last : get_or t (length t - 1) 0 ≡ b =
    sym (at_end t (length t - 1) c (omega arith))
    ∙ sym (prev_of_first (c ∷ t) o (length t) refl)
    ∙ prev_is_what_it_follows (c ∷ t) o b c f.0 f.1 in
    let b-place : place b t ≡ length t - 1 = ap (λ y. place y t) (sym last) ∙ place_get_or t (length t - 1) 0 q (omega arith) in
    X.insert_after_there b t m c ∙ ap (λ k. opened t k c) (let e : suc (place b t) ≡ length t = omega arith in e) ∙ opened_end t c
  where
    at_end : (t : List ℕ) (j c : ℕ) → suc j ≡ length t → get_or (c ∷ t) (length t) 0 ≡ get_or t j 0
    at_end t j c e = ap (λ k. get_or (c ∷ t) k 0) (sym e)

first_erased : (c : ℕ) (t : List ℕ) → erase c (c ∷ t) ≡ t
unfolding closed
first_erased c t = X.erase_there c (c ∷ t) (here c t) ∙ rw (eq-eqb c c refl)

pub insert_erased : (l : List ℕ) → Distinct l → (b c : ℕ) → Follows l b c → b ≢ c → SameRound l (insert_after b c (erase c l))
insert_erased [] o b c f d = absurd (not-suc-le-zero f.0)
insert_erased (a ∷ t) o b c f d =
    ⊎_elim
    (λ e. subst (λ y. Follows (a ∷ t) b y → b ≢ y → SameRound (a ∷ t) (insert_after b y (erase y (a ∷ t)))) (sym e.1) first f d)
    (λ e.
    same_round (a ∷ t) (insert_after b c (erase c (a ∷ t)))
    (inner (a ∷ t) o b c (place c t) (rw e.0) f d (subst (λ y. y ∈ a ∷ t) f.1 (next_in (a ∷ t) b f.0))))
    (eq_split c a)
  where
    first : Follows (a ∷ t) b a → b ≢ a → SameRound (a ∷ t) (insert_after b a (erase a (a ∷ t)))
    first g n = record { start = 1; within = omega arith; turned = ap (insert_after b a) (first_erased a t) ∙ outer a t o b g n }
