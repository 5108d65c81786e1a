-- The two lists of a vertex tell its valence, its ring, and whether it closes. Assumes nothing.
use mathlib.Core.Path.{◌≡◌, refl, sym, ap, ap₂, ◌∙◌, subst, fun_ext}
use mathlib.Core.Bool.{Bool, true, false, cond, ◌&&◌, ◌||◌}
use mathlib.Core.List.{List, [], ◌∷◌, ◌++◌, append-nil}
use mathlib.Core.Logic.{⊎_elim}
use Prim.Native.Nat.{ℕ, zero, suc, ◌+◌, ◌≤◌, ◌<◌}
use native.Mathlib.Nat.{not-suc-le-zero}
use native.Mathlib.Omega.{arith}
use lib.Dec.{eqb}
use lib.ListN.{length, get_or, length-append, get_or-append}
use lib.Seq.{get_or-append_seam}
use borrow.Author.Tests.{eq-eqb}
use Rattle.mesh.specs.Search.{bit, sum, first, some}
use Rattle.mesh.specs.Ring.{times, ◌∈◌, has, place}
use Rattle.mesh.proofs.Lists.{eq_split, lt_split}
use Rattle.mesh.proofs.Rings.{place_lt, in_cons}
use Rattle.mesh.proofs.Places.{in_has, has_in}
use Rattle.mesh.proofs.First.{first_is, first_at, first_clear, some_at, true_not_false, by_cases}
use Rattle.off_rings.specs.Faces.{Face, corner, before, behind, has_pair, steps, pair_in, faces_at, after, least, face_ring, back_in, closed}
use Rattle.off_rings.specs.Fans.{befores, behinds, follower, smallest, fan_ring, fan_closes}
use Rattle.off_rings.proofs.Sums.{sum_some, sum_has}

-- ---- one entry more at a list's end

times_append : (x : ℕ) (s t : List ℕ) → times x (s ++ t) ≡ times x s + times x t
times_append x [] t = omega arith
times_append x (a ∷ s) t = omega (arith, times_append x s t)

place_front : (x : ℕ) (s t : List ℕ) → x ∈ s → place x (s ++ t) ≡ place x s
place_front x [] t m = absurd (not-suc-le-zero m)
place_front x (a ∷ s) t m = ⊎_elim (λ e. rw e.0) (λ e. rw e.0 (ap suc (place_front x s t (in_cons x a s m e.1)))) (eq_split x a)

place_back : (x : ℕ) (s : List ℕ) → times x s ≤ 0 → place x (s ++ (x ∷ [])) ≡ length s
place_back x [] h = rw (eq-eqb x x refl)
place_back x (a ∷ s) h =
    ⊎_elim
    (λ e. absurd (omega (arith, ap bit e.0)))
    (λ e. rw e.0 (ap suc (place_back x s (omega arith))))
    (eq_split x a)

-- the first below k is the first below k + 1
first_more : (p : ℕ → Bool) (k : ℕ) → first p k < k → first p (suc k) ≡ first p k
first_more p k h = sym (first_is (first_clear p k) (omega arith) (first_at p k h))

abbrev closes_by : (ℕ → ℕ) → ℕ → ℕ → Bool
closes_by f x k = eqb k 0 || eqb (suc (first (λ i. eqb (steps f x (suc i)) x) k)) k

module _ (n m : ℕ) (face : ℕ → Face) (v : ℕ) where
  one_length : (t : Bool) (a : ℕ) → length (cond t (a ∷ []) []) ≡ bit t
  one_length true a = refl
  one_length false a = refl

  befores_length : (k : ℕ) → length (befores face v k) ≡ sum (λ i. bit (corner v (face i))) k
  unfolding befores
  befores_length zero = refl
  befores_length (suc k) =
      length-append (befores face v k) (cond (corner v (face k)) (before v (face k) ∷ []) [])
      ∙ ap₂ (λ a b. a + b) (befores_length k) (one_length (corner v (face k)) (before v (face k)))

  behinds_length : (k : ℕ) → length (behinds face v k) ≡ sum (λ i. bit (corner v (face i))) k
  unfolding behinds
  behinds_length zero = refl
  behinds_length (suc k) =
      length-append (behinds face v k) (cond (corner v (face k)) (behind v (face k) ∷ []) [])
      ∙ ap₂ (λ a b. a + b) (behinds_length k) (one_length (corner v (face k)) (behind v (face k)))

  module _ (x : ℕ) where
    one_times : (t : Bool) (a : ℕ) → times x (cond t (a ∷ []) []) ≡ bit (t && eqb x a)
    one_times true a = omega arith
    one_times false a = refl

    befores_times : (k : ℕ) → times x (befores face v k) ≡ sum (λ i. bit (has_pair x v (face i))) k
    unfolding befores has_pair
    befores_times zero = refl
    befores_times (suc k) =
        times_append x (befores face v k) (cond (corner v (face k)) (before v (face k) ∷ []) [])
        ∙ ap₂ (λ a b. a + b) (befores_times k) (one_times (corner v (face k)) (before v (face k)))

    -- where x stands, what follows it comes from the first face with the pair
    Right : ℕ → Type 0
    Right k =
        x ∈ befores face v k
        → (first (pair_in n m face x v) k < k)
        × (get_or (behinds face v k) (place x (befores face v k)) 0 ≡ behind v (face (first (pair_in n m face x v) k)))

    right_none : Right 0
    unfolding Right befores
    right_none k = absurd (not-suc-le-zero k)

    right_skip : (k : ℕ) → corner v (face k) ≡ false → Right k → Right (suc k)
    unfolding Right befores behinds
    right_skip k e r =
        rw (e, append-nil (befores face v k), append-nil (behinds face v k)) (λ h.
        let q = r h in
        let f = first_more (pair_in n m face x v) k q.0 in
        (omega arith, q.1 ∙ ap (λ j. behind v (face j)) (sym f)))

    new_first : (k : ℕ) → corner v (face k) ≡ true → x ≡ before v (face k) → times x (befores face v k) ≤ 0 → first (pair_in n m face x v) (suc k) ≡ k
    unfolding has_pair
    new_first k e g z =
        sym (first_is (record { below = λ i l. by_cases _ (λ t. none i l t) }) (omega arith) (rw (e, eq-eqb x (before v (face k)) g)))
      where
        none : (i : ℕ) → i < k → has_pair x v (face i) ≡ true → ⊥
        none i l t = omega (arith, befores_times k, sum_has (pair_in n m face x v) k i l t)

    Goal : ℕ → Type 0
    Goal k =
        (first (pair_in n m face x v) (suc k) < suc k)
        × (get_or (behinds face v k ++ (behind v (face k) ∷ [])) (place x (befores face v k ++ (before v (face k) ∷ []))) 0
        ≡ behind v (face (first (pair_in n m face x v) (suc k))))

    right_old : (k : ℕ) → 0 < times x (befores face v k) → Right k → Goal k
    unfolding Right Goal
    right_old k m' r =
        let q = r m' in
        let f = first_more (pair_in n m face x v) k q.0 in (
          omega arith,
          ap (λ i. get_or (behinds face v k ++ (behind v (face k) ∷ [])) i 0) (place_front x (befores face v k) (before v (face k) ∷ []) m')
              ∙ get_or-append (behinds face v k) (behind v (face k) ∷ []) 0 (place x (befores face v k))
              (omega (arith, place_lt x (befores face v k) m', befores_length k, behinds_length k))
              ∙ q.1
              ∙ ap (λ j. behind v (face j)) (sym f),
        )

    right_new : (k : ℕ) → corner v (face k) ≡ true → times x (befores face v k) ≤ 0 → x ≡ before v (face k) → Goal k
    unfolding Goal
    right_new k e z g =
        let f = new_first k e g z in
        let l : length (befores face v k) ≡ length (behinds face v k) = befores_length k ∙ sym (behinds_length k) in (
          omega arith,
          ap (λ y. get_or (behinds face v k ++ (behind v (face k) ∷ [])) (place x (befores face v k ++ (y ∷ []))) 0) (sym g)
              ∙ ap (λ i. get_or (behinds face v k ++ (behind v (face k) ∷ [])) i 0) (place_back x (befores face v k) z ∙ l)
              ∙ get_or-append_seam (behinds face v k) (behind v (face k)) [] 0
              ∙ ap (λ j. behind v (face j)) (sym f),
        )

    right_more : (k : ℕ) → corner v (face k) ≡ true → Right k → Right (suc k)
    unfolding Right befores behinds Goal
    right_more k e r =
        rw e (λ h.
        ⊎_elim
        (λ q. right_old k q.1 r)
        (λ q. ⊎_elim (λ g. right_new k e q.1 g.1) (λ g. absurd (none h q.1 g.0)) (eq_split x (before v (face k))))
        (lt_split 0 (times x (befores face v k))))
      where
        none : 0 < times x (befores face v k ++ (before v (face k) ∷ [])) → times x (befores face v k) ≤ 0 → eqb x (before v (face k)) ≡ false → ⊥
        none h z g = omega (arith, times_append x (befores face v k) (before v (face k) ∷ []), ap bit g)

    right : (k : ℕ) → Right k
    right zero = right_none
    right (suc k) = go (right k) (corner v (face k)) refl
      where
        go : Right k → (t : Bool) → corner v (face k) ≡ t → Right (suc k)
        go r true e = right_more k e r
        go r false e = right_skip k e r

    has_some : has x (befores face v m) ≡ some (pair_in n m face x v) m
    has_some = go (has x (befores face v m)) refl (some (pair_in n m face x v) m) refl
      where
        go : (a : Bool) → has x (befores face v m) ≡ a → (b : Bool) → some (pair_in n m face x v) m ≡ b → has x (befores face v m) ≡ some (pair_in n m face x v) m
        go true e true g = e ∙ sym g
        go false e false g = e ∙ sym g
        go true e false g = absurd (true_not_false (sum_some (pair_in n m face x v) m (subst (λ k. 0 < k) (befores_times m) (has_in x (befores face v m) e))) g)
        go false e true g =
            let s = some_at (pair_in n m face x v) m g in
            let p = sum_has (pair_in n m face x v) m (first (pair_in n m face x v) m) s.0 s.1 in
            absurd (true_not_false (in_has x (befores face v m) (subst (λ k. 0 < k) (sym (befores_times m)) p)) e)

    after_follower : after n m face v x ≡ follower n (befores face v m) (behinds face v m) x
    unfolding after follower Right
    after_follower = go (has x (befores face v m)) refl
      where
        go : (t : Bool) → has x (befores face v m) ≡ t
            → cond (some (pair_in n m face x v) m) (behind v (face (first (pair_in n m face x v) m))) n
            ≡ cond (has x (befores face v m)) (get_or (behinds face v m) (place x (befores face v m)) 0) n
        go true e = rw (← has_some, e) (sym (right m (has_in x (befores face v m) e)).1)
        go false e = rw (← has_some, e)

  pub faces_length : length (befores face v m) ≡ faces_at n m face v
  unfolding faces_at
  faces_length = befores_length m

  least_smallest : least n m face v ≡ smallest n (befores face v m) (behinds face v m)
  unfolding least smallest
  least_smallest = ap (λ p. first p n) (fun_ext (λ x. sym (has_some x)))

  same_step : after n m face v ≡ follower n (befores face v m) (behinds face v m)
  same_step = fun_ext after_follower

  pub ring_fan : face_ring n m face v ≡ fan_ring n (befores face v m) (behinds face v m)
  unfolding face_ring fan_ring
  ring_fan = rw (same_step, least_smallest, faces_length)

  pub closed_fan : closed n m face v ≡ fan_closes n (befores face v m) (behinds face v m)
  unfolding closed fan_closes back_in
  closed_fan =
      ap (λ f. closes_by f (least n m face v) (faces_at n m face v)) same_step
      ∙ ap (λ x. closes_by (follower n (befores face v m) (behinds face v m)) x (faces_at n m face v)) least_smallest
      ∙ ap (closes_by (follower n (befores face v m) (behinds face v m)) (smallest n (befores face v m) (behinds face v m))) (sym faces_length)
