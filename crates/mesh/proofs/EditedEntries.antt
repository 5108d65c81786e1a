-- Which entries a ring has after an edit, how many, and that they do not repeat (document 01, "Ring rules").
-- Assumes nothing.
use mathlib.Core.Path.{◌≡◌, sym, ap, ◌∙◌, subst}
use mathlib.Core.Bool.{true, false}
use mathlib.Core.List.{List}
use mathlib.Core.Logic.{◌⊎◌, inl, inr, ⊎_elim, ◌≢◌, ◌↔◌}
use Prim.Native.Nat.{ℕ, suc, ◌+◌}
use native.Mathlib.Omega.{arith}
use lib.Dec.{eqb}
use lib.ListN.{length, set, length-set}
use Rattle.mesh.specs.Search.{bit}
use Rattle.mesh.specs.Ring.{times, ◌∈◌, has, Distinct, place}
use Rattle.mesh.specs.Edits.{closed, opened, erase, replace, insert_after, insert_before}
use Rattle.mesh.proofs.Lists.{eq_split, lt_split}
use Rattle.mesh.proofs.Rings.{place_lt, get_or_place}
use Rattle.mesh.proofs.Places.{in_has}
use Rattle.mesh.proofs.EditPlaces.{opened_length, opened_times, closed_length, closed_times, set_times}

-- ---- an edit at an entry that is absent has no effect

module _ (a : ℕ) (l : List ℕ) (n : a ∈ l → ⊥) where
  none : has a l ≡ false
  unfolding has
  none = ⊎_elim (λ h. absurd (n h.1)) (λ h. h.0) (lt_split 0 (times a l))

  pub erase_absent : erase a l ≡ l
  unfolding erase
  erase_absent = rw none

  pub replace_absent : (x : ℕ) → replace a x l ≡ l
  unfolding replace
  replace_absent x = rw none

  pub insert_after_absent : (x : ℕ) → insert_after a x l ≡ l
  unfolding insert_after
  insert_after_absent x = rw none

  pub insert_before_absent : (x : ℕ) → insert_before a x l ≡ l
  unfolding insert_before
  insert_before_absent x = rw none

-- ---- at an entry that is there it is an edit of its place

module _ (a : ℕ) (l : List ℕ) (m : a ∈ l) where
  pub erase_there : erase a l ≡ closed l (place a l)
  unfolding erase
  erase_there = rw (in_has a l m)

  pub replace_there : (x : ℕ) → replace a x l ≡ set l (place a l) x
  unfolding replace
  replace_there x = rw (in_has a l m)

  pub insert_after_there : (x : ℕ) → insert_after a x l ≡ opened l (suc (place a l)) x
  unfolding insert_after
  insert_after_there x = rw (in_has a l m)

  pub insert_before_there : (x : ℕ) → insert_before a x l ≡ opened l (place a l) x
  unfolding insert_before
  insert_before_there x = rw (in_has a l m)

  -- lengths
  pub erase_length : suc (length (erase a l)) ≡ length l
  erase_length = ap (λ t. suc (length t)) erase_there ∙ closed_length l (place a l) (place_lt a l m)

  pub replace_length : (x : ℕ) → length (replace a x l) ≡ length l
  replace_length x = ap length (replace_there x) ∙ length-set l (place a l) x

  pub insert_after_length : (x : ℕ) → length (insert_after a x l) ≡ suc (length l)
  insert_after_length x = ap length (insert_after_there x) ∙ opened_length l (suc (place a l)) x

  pub insert_before_length : (x : ℕ) → length (insert_before a x l) ≡ suc (length l)
  insert_before_length x = ap length (insert_before_there x) ∙ opened_length l (place a l) x

  -- how often y stands there
  pub erase_times : (y : ℕ) → bit (eqb y a) + times y (erase a l) ≡ times y l
  erase_times y =
      ap (λ t. bit (eqb y a) + times y t) erase_there
      ∙ ap (λ b. bit (eqb y b) + times y (closed l (place a l))) (sym (get_or_place a l 0 m))
      ∙ closed_times y l (place a l) (place_lt a l m)

  pub replace_times : (x y : ℕ) → bit (eqb y a) + times y (replace a x l) ≡ bit (eqb y x) + times y l
  replace_times x y =
      ap (λ t. bit (eqb y a) + times y t) (replace_there x)
      ∙ ap (λ b. bit (eqb y b) + times y (set l (place a l) x)) (sym (get_or_place a l 0 m))
      ∙ set_times y l (place a l) x (place_lt a l m)

  pub insert_after_times : (x y : ℕ) → times y (insert_after a x l) ≡ bit (eqb y x) + times y l
  insert_after_times x y = ap (times y) (insert_after_there x) ∙ opened_times y l (suc (place a l)) x

  pub insert_before_times : (x y : ℕ) → times y (insert_before a x l) ≡ bit (eqb y x) + times y l
  insert_before_times x y = ap (times y) (insert_before_there x) ∙ opened_times y l (place a l) x

-- ---- counts of one entry more, of one less, and of one for another: members and repeats

absent_times : (x y : ℕ) (l : List ℕ) → (x ∈ l → ⊥) → y ≡ x → times y l ≡ 0
absent_times x y l n e = ⊎_elim (λ g. absurd (n (subst (λ t. t ∈ l) e g.1))) (λ g. omega arith) (lt_split 0 (times y l))

module _ (old new : List ℕ) (x : ℕ) (more : (y : ℕ) → times y new ≡ bit (eqb y x) + times y old) where
  more_in : (y : ℕ) → (y ∈ new) ↔ ((y ≡ x) ⊎ (y ∈ old))
  more_in y = ⊎_elim yes no (eq_split y x)
    where
      yes : (eqb y x ≡ true) × (y ≡ x) → (y ∈ new) ↔ ((y ≡ x) ⊎ (y ∈ old))
      yes e = ((λ m. inl e.1), (λ s. omega (arith, more y, ap bit e.0)))

      no : (eqb y x ≡ false) × (y ≢ x) → (y ∈ new) ↔ ((y ≡ x) ⊎ (y ∈ old))
      no e = ((λ m. inr (omega (arith, more y, ap bit e.0))), ⊎_elim (λ q. absurd (e.1 q)) (λ m. omega (arith, more y)))

  pub more_distinct : Distinct old → (x ∈ old → ⊥) → Distinct new
  more_distinct o n y =
      ⊎_elim
      (λ e. omega (arith, more y, ap bit e.0, absent_times x y old n e.1))
      (λ e. omega (arith, more y, ap bit e.0, o y))
      (eq_split y x)

module _ (old new : List ℕ) (a : ℕ) (o : Distinct old) (less : (y : ℕ) → bit (eqb y a) + times y new ≡ times y old) where
  less_in : (y : ℕ) → (y ∈ new) ↔ ((y ∈ old) × (y ≢ a))
  less_in y = ⊎_elim yes no (eq_split y a)
    where
      yes : (eqb y a ≡ true) × (y ≡ a) → (y ∈ new) ↔ ((y ∈ old) × (y ≢ a))
      yes e = ((λ m. absurd (omega (arith, less y, ap bit e.0, o y))), (λ s. absurd (s.1 e.1)))

      no : (eqb y a ≡ false) × (y ≢ a) → (y ∈ new) ↔ ((y ∈ old) × (y ≢ a))
      no e = ((λ m. (omega (arith, less y, ap bit e.0), e.1)), (λ s. omega (arith, less y, ap bit e.0, s.0)))

  less_distinct : Distinct new
  less_distinct y = omega (arith, less y, o y)

module _ (old new : List ℕ) (a x : ℕ) (o : Distinct old) (m : a ∈ old) (n : x ∈ old → ⊥) (other : (y : ℕ) → bit (eqb y a) + times y new ≡ bit (eqb y x) + times y old) where
  other_in : (y : ℕ) → (y ∈ new) ↔ ((y ≡ x) ⊎ ((y ∈ old) × (y ≢ a)))
  other_in y = ⊎_elim is_x not_x (eq_split y x)
    where
      is_x : (eqb y x ≡ true) × (y ≡ x) → (y ∈ new) ↔ ((y ≡ x) ⊎ ((y ∈ old) × (y ≢ a)))
      is_x e = (
        (λ k. inl e.1),
        (λ s. ⊎_elim (λ g. absurd (n (subst (λ t. t ∈ old) (sym g.1 ∙ e.1) m))) (λ g. omega (arith, other y, ap bit e.0, ap bit g.0)) (eq_split y a)),
      )

      not_x : (eqb y x ≡ false) × (y ≢ x) → (y ∈ new) ↔ ((y ≡ x) ⊎ ((y ∈ old) × (y ≢ a)))
      not_x e =
          ⊎_elim
          (λ g. (
            (λ k. absurd (omega (arith, other y, ap bit e.0, ap bit g.0, o y))),
            ⊎_elim (λ q. absurd (e.1 q)) (λ s. absurd (s.1 g.1)),
          ))
          (λ g. (
            (λ k. inr (omega (arith, other y, ap bit e.0, ap bit g.0), g.1)),
            ⊎_elim (λ q. absurd (e.1 q)) (λ s. omega (arith, other y, ap bit e.0, ap bit g.0, s.0)),
          ))
          (eq_split y a)

  other_distinct : Distinct new
  other_distinct y =
      ⊎_elim
      (λ e. omega (arith, other y, ap bit e.0, absent_times x y old n e.1))
      (λ e. omega (arith, other y, ap bit e.0, o y))
      (eq_split y x)

-- ---- so for the edits

module _ (l : List ℕ) (o : Distinct l) where
  pub erase_in : (x y : ℕ) → x ∈ l → (y ∈ erase x l) ↔ ((y ∈ l) × (y ≢ x))
  erase_in x y m = less_in l (erase x l) x o (erase_times x l m) y

  pub erase_distinct : (x : ℕ) → x ∈ l → Distinct (erase x l)
  erase_distinct x m = less_distinct l (erase x l) x o (erase_times x l m)

  module _ (a x : ℕ) (m : a ∈ l) (n : x ∈ l → ⊥) where
    pub replace_in : (y : ℕ) → (y ∈ replace a x l) ↔ ((y ≡ x) ⊎ ((y ∈ l) × (y ≢ a)))
    replace_in = other_in l (replace a x l) a x o m n (replace_times a l m x)

    pub replace_distinct : Distinct (replace a x l)
    replace_distinct = other_distinct l (replace a x l) a x o m n (replace_times a l m x)

    pub insert_after_in : (y : ℕ) → (y ∈ insert_after a x l) ↔ ((y ≡ x) ⊎ (y ∈ l))
    insert_after_in = more_in l (insert_after a x l) x (insert_after_times a l m x)

    pub insert_before_in : (y : ℕ) → (y ∈ insert_before a x l) ↔ ((y ≡ x) ⊎ (y ∈ l))
    insert_before_in = more_in l (insert_before a x l) x (insert_before_times a l m x)
