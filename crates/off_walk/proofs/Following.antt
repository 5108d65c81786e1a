-- From searches in the two lists to the definitions. Assumes nothing.
use mathlib.Core.Path.{◌≡◌, refl, sym, ap, ◌∙◌, subst}
use mathlib.Core.Bool.{true, false}
use mathlib.Core.List.{List, [], ◌∷◌}
use mathlib.Core.Logic.{◌⊎◌, inl, inr, ⊎_elim, ◌≢◌}
use Prim.Native.Nat.{ℕ, suc, min, ◌+◌, ◌≤◌, ◌<◌}
use native.Mathlib.Nat.{eq-or-lt_of_le}
use native.Mathlib.Numerals.{add-one}
use native.Mathlib.Omega.{arith}
use lib.Dec.{eqb}
use lib.ListN.{length, get_or}
use borrow.Author.Tests.{eq-eqb, ne_eqb}
use Rattle.std.specs.List.{fold}
use Rattle.mesh.specs.Search.{first}
use Rattle.mesh.specs.Ring.{◌∈◌, has, place}
use Rattle.mesh.proofs.Lists.{eq_split, lt_split, here, there}
use Rattle.mesh.proofs.Rings.{place_lt, in_cons}
use Rattle.mesh.proofs.Places.{in_has, has_in, in_place}
use Rattle.mesh.proofs.First.{Clear, clear_none, clear_more, first_is, first_end, by_cases}
use Rattle.off_rings.specs.Faces.{steps}
use Rattle.off_rings.specs.Fans.{follower, smallest, fan_back, fan_closes}
use Rattle.off_rings.proofs.Trails.{steps_suc, steps_none}

module _ (n : ℕ) (from to : List ℕ) (x i : ℕ) (e : i ≡ place x from) where
  pub follows_there : i < length from → get_or to i 0 ≡ follower n from to x
  unfolding follower
  follows_there h = rw (in_has x from (in_place x from (omega arith)), ← e)

  pub follows_none : length from ≤ i → n ≡ follower n from to x
  unfolding follower
  follows_none h = rw (by_cases (has x from) (λ q. absurd (omega (arith, place_lt x from (has_in x from q), e))))

-- ---- the least of n and the entries

-- it is one of them, and none of them is smaller
record Least (n : ℕ) (l : List ℕ) (best : ℕ) : Type 0 where
  pub most : best ≤ n
  pub least : (x : ℕ) → x ∈ l → best ≤ x
  pub found : (best ≡ n) ⊎ (best ∈ l)

least_of : (n : ℕ) (l : List ℕ) → Least n l (fold min n l)
least_of n [] = record { most = omega arith; least = λ x m. absurd (omega arith); found = inl refl }
least_of n (a ∷ l) =
    let k = least_of (min n a) l in
    record {
      most = omega (arith, k.most);
      least = λ x m. ⊎_elim (λ e. omega (arith, k.most, e.1)) (λ e. k.least x (in_cons x a l m e.1)) (eq_split x a);
      found = ⊎_elim
          (λ e. ⊎_elim (λ h. inl (omega (arith, e, h))) (λ h. inr (subst (λ x. x ∈ a ∷ l) (omega (arith, e, h)) (here a l))) (lt_split n a))
          (λ m. inr (there _ a l m))
          k.found;
    }

pub least_is : (n : ℕ) (l to : List ℕ) → fold min n l ≡ smallest n l to
unfolding smallest
least_is n l to = ⊎_elim none (λ m. ⊎_elim none (λ h. first_is clear h (in_has (fold min n l) l m)) (eq-or-lt_of_le k.most)) k.found
  where
    k : Least n l (fold min n l)
    k = least_of n l

    clear : Clear (λ x. has x l) (fold min n l)
    clear = record { below = λ x h. by_cases (has x l) (λ q. let h' = k.least x (has_in x l q) in omega arith) }

    none : fold min n l ≡ n → fold min n l ≡ first (λ x. has x l) n
    none e = first_end clear k.most (omega arith)

-- ---- the walk

module _ (n : ℕ) (from to : List ℕ) where
  pub record Walked (start x k : ℕ) : Type 0 where
    pub begins : start ≡ smallest n from to
    pub here : x ≡ steps (follower n from to) start (suc k)
    pub clear : Clear (fan_back n from to) k

  pub walk_none : (start x : ℕ) → start ≡ smallest n from to → x ≡ follower n from to start → Walked start x 0
  walk_none start x e q = record {
    begins = e;
    here = q ∙ sym (steps_suc (follower n from to) start 0 ∙ ap (follower n from to) (steps_none (follower n from to) start));
    clear = clear_none;
  }

  at_back : (start x k : ℕ) → Walked start x k → (x ≡ start → fan_back n from to k ≡ true) × (x ≢ start → fan_back n from to k ≡ false)
  at_back start x k w =
      let e : x ≡ steps (follower n from to) (smallest n from to) (suc k) = w.here ∙ ap (λ y. steps (follower n from to) y (suc k)) w.begins in
      ((λ q. eq-eqb _ _ (sym e ∙ q ∙ w.begins)), (λ d. ne_eqb _ _ (λ q. d (e ∙ q ∙ sym w.begins))))

  pub walk_more : {start x y k m : ℕ} → Walked start x k → x ≢ start → y ≡ follower n from to x → m ≡ k + 1 → Walked start y m
  walk_more {start} {x} {y} {k} w d e q = rw q record {
    begins = w.begins;
    here = rw (add-one k) (e ∙ ap (follower n from to) w.here ∙ sym (steps_suc (follower n from to) start (suc k)));
    clear = clear_more w.clear ((at_back start x k w).1 d);
  }

  pub closes_empty : length from ≡ 0 → true ≡ fan_closes n from to
  unfolding fan_closes
  closes_empty z = rw (eq-eqb (length from) 0 z)

  -- back before all faces are passed
  pub closes_early : {start x k : ℕ} → Walked start x k → k + 1 < length from → x ≡ start → false ≡ fan_closes n from to
  unfolding fan_closes
  closes_early {start} {x} {k} w h q =
      rw (ne_eqb (length from) 0 (omega arith), ← first_is {n = length from} w.clear (omega arith) ((at_back start x k w).0 q), ne_eqb (suc k) (length from) (omega arith))

  -- only the last face is left
  pub closes_last : {start x k : ℕ} → Walked start x k → length from ≡ k + 1 → eqb x start ≡ fan_closes n from to
  unfolding fan_closes
  closes_last {start} {x} {k} w e =
      ⊎_elim
      (λ q. rw (q.0, ne_eqb (length from) 0 (omega arith), ← first_is {n = length from} w.clear (omega arith) ((at_back start x k w).0 q.1), eq-eqb (suc k) (length from) (omega arith)))
      (λ q.
      rw (q.0, ne_eqb (length from) 0 (omega arith), ← first_end {n = length from} (clear_more w.clear ((at_back start x k w).1 q.1)) (omega arith) (omega arith), ne_eqb (suc (k + 1)) (length from) (omega arith)))
      (eq_split x start)
