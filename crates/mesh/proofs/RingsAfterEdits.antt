-- The ring edits (document 01, "Ring rules"), for a ring without repeats. An inserted number comes between two that were neighbours,
-- an erased one leaves its neighbours next to one another, a replaced one is followed and preceded as the old one was; everything else keeps its neighbours.
-- Which entries there are after an edit, and how many, is in `EditedEntries`.
-- Assumes nothing.
use mathlib.Core.Path.{◌≡◌, refl, sym, ap, ◌∙◌, subst}
use mathlib.Core.List.{List}
use Prim.Native.Nat.{ℕ, suc, ◌≤◌, ◌<◌}
use native.Mathlib.Omega.{arith}
use lib.ListN.{length}
use Rattle.mesh.specs.Ring.{◌∈◌, Distinct, place, next, prev}
use Rattle.mesh.specs.Edits.{closed, opened, erase, replace, insert_after, insert_before}
use Rattle.mesh.proofs.Rings.{place_lt, get_or_place, prev_at, next_prev}
use Rattle.mesh.proofs.EditPlaces.{opened_closed}
use Rattle.mesh.proofs.EditedEntries as X
use Rattle.mesh.proofs.OpenedRings.{entry_before, entry_after, entry_in}
use Rattle.mesh.proofs.Neighbours.{PutAfter, TakenOut, Renamed, opened_put, taken_out, set_renames}

module _ (l : List ℕ) (o : Distinct l) where
  -- x after a: it is followed by what followed a
  pub after_insert_after : (a x : ℕ) → a ∈ l → (x ∈ l → ⊥) → PutAfter l (insert_after a x l) a x
  after_insert_after a x m n =
      let k : place a l < length l = place_lt a l m in
      subst (λ c. PutAfter l (insert_after a x l) c x) (entry_after l (place a l) (suc (place a l)) refl ∙ get_or_place a l 0 m)
      (rw (X.insert_after_there a l m x) (opened_put l o x n (suc (place a l)) k (omega arith)))

  -- x before a: it comes after what preceded a
  pub after_insert_before : (a x : ℕ) → a ∈ l → (x ∈ l → ⊥) → PutAfter l (insert_before a x l) (prev l a) x
  unfolding entry_before
  after_insert_before a x m n =
      let k : place a l < length l = place_lt a l m in
      subst (λ c. PutAfter l (insert_before a x l) c x) (sym (prev_at l a))
      (rw (X.insert_before_there a l m x) (opened_put l o x n (place a l) (omega arith) (omega arith)))

  -- and so before a itself
  pub insert_before_is_before : (a x : ℕ) → a ∈ l → (x ∈ l → ⊥) → (next (insert_before a x l) x ≡ a) × (prev (insert_before a x l) a ≡ x)
  insert_before_is_before a x m n =
      let p = after_insert_before a x m n in
      let e : next l (prev l a) ≡ a = next_prev l o a m in
      (p.next_of_x ∙ e, ap (prev (insert_before a x l)) (sym e) ∙ p.prev_of_follower)

  -- x erased from a ring of two or more
  pub after_erase : (x : ℕ) → x ∈ l → 2 ≤ length l → TakenOut l (erase x l) x
  after_erase x m t =
      let i : ℕ = place x l in
      let h : i < length l = place_lt x l m in
      let new : List ℕ = erase x l in
      let size : suc (length new) ≡ length l = X.erase_length x l m in
      let p : Distinct new = X.erase_distinct l o x m in
      let gone : x ∈ new → ⊥ = λ k. ((X.erase_in l o x x m).0 k).1 refl in
      let back : opened new i x ≡ l = ap (λ s. opened s i x) (X.erase_there x l m) ∙ ap (opened (closed l i) i) (sym (get_or_place x l 0 m)) ∙ opened_closed l i h in
      taken_out l new (entry_before new i) x p (entry_in new i (omega arith) (omega arith)) (λ y k d. (X.erase_in l o x y m).1 (k, d))
      (subst (λ s. PutAfter new s (entry_before new i) x) back (opened_put new p x gone i (omega arith) (omega arith)))

  -- a replaced by x
  pub after_replace : (a x : ℕ) → a ∈ l → (x ∈ l → ⊥) → Renamed l (replace a x l) a x
  after_replace a x m n = rw (X.replace_there a l m x) (set_renames a x l o m n)

-- ---- properness
