-- What follows what in a ring with one place opened: x comes between the entry before that place and the one that followed it; all else follows as it did.
-- Assumes nothing.
use mathlib.Core.Path.{◌≡◌, refl, sym, ap, ◌∙◌}
use mathlib.Core.List.{List}
use mathlib.Core.Logic.{⊎_elim, ◌≢◌}
use Prim.Native.Nat.{ℕ, zero, suc, ◌-◌, ◌≤◌, ◌<◌}
use native.Mathlib.Omega.{arith}
use lib.ListN.{length, get_or}
use borrow.Author.Tests.{eq-eqb, ne_eqb}
use Rattle.mesh.specs.Ring.{◌∈◌, Distinct, place, place_after, place_before, next}
use Rattle.mesh.specs.Edits.{opened}
use Rattle.mesh.proofs.Lists.{eq_split, lt_split}
use Rattle.mesh.proofs.Rings.{place_lt, get_or_place, get_or_in, next_get_or}
use Rattle.mesh.proofs.RingsGoRound.{next_inner, next_of_last}
use Rattle.mesh.proofs.EditedEntries.{more_distinct}
use Rattle.mesh.proofs.EditPlaces.{opened_length, opened_before, opened_at, opened_after, opened_times}

-- the entry before place i of the ring, which for i = 0 is the last
unfoldable pub entry_before : List ℕ → ℕ → ℕ
entry_before l i = get_or l (place_before (length l) i) 0

pub entry_after : (l : List ℕ) (j i : ℕ) → suc j ≡ i → entry_before l i ≡ get_or l j 0
unfolding entry_before place_before
entry_after l j i e = rw (ne_eqb i 0 (omega arith)) (ap (λ k. get_or l k 0) (omega arith))

entry_last : (l : List ℕ) (j i : ℕ) → suc j ≡ length l → i ≡ 0 → entry_before l i ≡ get_or l j 0
unfolding entry_before place_before
entry_last l j i e z = rw (eq-eqb i 0 z) (ap (λ k. get_or l k 0) (omega arith))

pub entry_in : (l : List ℕ) (i : ℕ) → i ≤ length l → 0 < length l → entry_before l i ∈ l
unfolding entry_before place_before
entry_in l i h some =
    ⊎_elim
    (λ e. rw e.0 (get_or_in l (length l - 1) 0 (omega arith)))
    (λ e. rw e.0 (get_or_in l (i - 1) 0 (omega arith)))
    (eq_split i 0)

-- what follows it is the entry at place i, or the first if i is the end
module _ (l : List ℕ) (o : Distinct l) where
  before_inner : (i : ℕ) → i < length l → next l (entry_before l i) ≡ get_or l i 0
  before_inner zero h = ap (next l) (entry_last l (length l - 1) 0 (omega arith) refl) ∙ next_of_last l o (length l - 1) (omega arith)
  before_inner (suc i) h = ap (next l) (entry_after l i (suc i) refl) ∙ next_inner l o i h

  before_end : (i : ℕ) → i ≡ length l → 0 < length l → next l (entry_before l i) ≡ get_or l 0 0
  before_end i e some = ap (next l) (entry_after l (length l - 1) i (omega arith)) ∙ next_of_last l o (length l - 1) (omega arith)

module _ (l : List ℕ) (o : Distinct l) (x : ℕ) (n : x ∈ l → ⊥) (i : ℕ) where
  pub opened_distinct : Distinct (opened l i x)
  opened_distinct = more_distinct l (opened l i x) x (λ y. opened_times y l i x) o n

  module _ (h : i ≤ length l) (some : 0 < length l) where
    -- next of the entry at a place of the longer ring
    step : (j : ℕ) → j ≤ length l → next (opened l i x) (get_or (opened l i x) j 0) ≡ get_or (opened l i x) (place_after (suc (length l)) j) 0
    step j g =
        next_get_or (opened l i x) opened_distinct j (omega (arith, opened_length l i x))
        ∙ ap (λ k. get_or (opened l i x) (place_after k j) 0) (opened_length l i x)

    inner : (j : ℕ) → j < length l → next (opened l i x) (get_or (opened l i x) j 0) ≡ get_or (opened l i x) (suc j) 0
    unfolding place_after
    inner j g = step j (omega arith) ∙ rw (ne_eqb (suc j) (suc (length l)) (omega arith))

    last : next (opened l i x) (get_or (opened l i x) (length l) 0) ≡ get_or (opened l i x) 0 0
    unfolding place_after
    last = step (length l) (omega arith) ∙ rw (eq-eqb (suc (length l)) (suc (length l)) refl)

    pub opened_next_before : next (opened l i x) (entry_before l i) ≡ x
    unfolding entry_before place_before
    opened_next_before =
        ⊎_elim
        (λ e.
        rw e.0
        (ap (next (opened l i x)) (sym (opened_after l i x (length l - 1) 0 (omega arith) h) ∙ ap (λ k. get_or (opened l i x) k 0) (omega arith))
        ∙ last
        ∙ ap (λ k. get_or (opened l i x) k 0) (sym e.1)
        ∙ opened_at l i x 0 h))
        (λ e.
        rw e.0
        (ap (next (opened l i x)) (sym (opened_before l i x (i - 1) 0 (omega arith) h))
        ∙ inner (i - 1) (omega arith)
        ∙ ap (λ k. get_or (opened l i x) k 0) (omega arith)
        ∙ opened_at l i x 0 h))
        (eq_split i 0)

    pub opened_next_new : next (opened l i x) x ≡ next l (entry_before l i)
    opened_next_new =
        ap (next (opened l i x)) (sym (opened_at l i x 0 h))
        ∙ ⊎_elim
        (λ g. inner i g.1 ∙ opened_after l i x i 0 (omega arith) h ∙ sym (before_inner l o i g.1))
        (λ g.
        let e : i ≡ length l = omega arith in
        ap (λ k. next (opened l i x) (get_or (opened l i x) k 0)) e ∙ last ∙ opened_before l i x 0 0 (omega arith) h ∙ sym (before_end l o i e some))
        (lt_split i (length l))

    pub opened_next_other : (y : ℕ) → y ∈ l → y ≢ entry_before l i → next (opened l i x) y ≡ next l y
    opened_next_other y m d =
        let j : ℕ = place y l in
        let k : j < length l = place_lt y l m in
        let is : get_or l j 0 ≡ y = get_or_place y l 0 m in
        ⊎_elim
        (λ g.
        let c : suc j ≢ i = λ e. d (sym is ∙ sym (entry_after l j i e)) in
        ap (next (opened l i x)) (sym (opened_before l i x j 0 g.1 h ∙ is))
        ∙ inner j k
        ∙ opened_before l i x (suc j) 0 (omega arith) h
        ∙ sym (next_inner l o j (omega arith))
        ∙ ap (next l) is)
        (λ g.
        ap (next (opened l i x)) (sym (opened_after l i x j 0 g.1 h ∙ is))
        ∙ ⊎_elim
        (λ q. inner (suc j) q.1 ∙ opened_after l i x (suc j) 0 (omega arith) h ∙ sym (next_inner l o j q.1))
        (λ q.
        let e : suc j ≡ length l = omega arith in
        let c : i ≢ 0 = λ z. d (sym is ∙ sym (entry_last l j i e z)) in
        ap (λ t. next (opened l i x) (get_or (opened l i x) t 0)) e ∙ last ∙ opened_before l i x 0 0 (omega arith) h ∙ sym (next_of_last l o j e))
        (lt_split (suc j) (length l))
        ∙ ap (next l) is)
        (lt_split j i)
