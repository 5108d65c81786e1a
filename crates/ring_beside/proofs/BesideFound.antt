-- What stands beside x, by the place of x that a search found; and what an answer tells of the ring. Assumes nothing.
use Prim.Native.Nat.{ℕ, ◌≤◌, ◌<◌}
use mathlib.Core.Path.{◌≡◌, refl, ap}
use mathlib.Core.Bool.{Bool, true, false, cond}
use mathlib.Core.List.{List}
use native.Mathlib.Omega.{arith}
use lib.ListN.{length, get_or}
use Rattle.mesh.specs.Ring.{has, place, place_after, place_before, next, prev}
use Rattle.mesh.proofs.Places.{has_yes, has_no, next_is, prev_is}
use Rattle.std.specs.declared.option.Option.TheVariants.{Some, None}
use Rattle.ring_beside.specs.Beside.{beside, after_in, before_in}
use Rattle.ring_beside.specs.declared.Beside.{Beside}

module _ (x : ℕ) (l : List ℕ) (i : ℕ) (q : i ≡ place x l) where
  pub after_at_lem : (j : ℕ) → i < length l → j ≡ place_after (length l) i → Some (beside (get_or l j 0) j) ≡ after_in l x
  unfolding after_in
  after_at_lem j h k = rw (has_yes x l i q h, ← next_is x l i q j k, ← q, ← k)

  pub after_absent : length l ≤ i → None ≡ after_in l x
  unfolding after_in
  after_absent h = rw (has_no x l i q h)

  pub before_at : (j : ℕ) → i < length l → j ≡ place_before (length l) i → Some (beside (get_or l j 0) j) ≡ before_in l x
  unfolding before_in
  before_at j h k = rw (has_yes x l i q h, ← prev_is x l i q j k, ← q, ← k)

  pub before_absent : length l ≤ i → None ≡ before_in l x
  unfolding before_in
  before_absent h = rw (has_no x l i q h)

-- ---- what an answer tells

told : (b : Bool) (y k : ℕ) (a : Beside) → Some a ≡ cond b (Some (beside y k)) None → (b ≡ true) × (a.vertex ≡ y)
told true y k a e = (refl, let same : a ≡ beside y k = cc in ap (λ (p : Beside). p.vertex) same)
told false y k a e = absurd (let z : ◌≡◌ {A = ℕ} 0 1 = cc in omega arith)

untold : (b : Bool) (y k : ℕ) → None ≡ cond b (Some (beside y k)) None → b ≡ false
untold true y k e = absurd (let z : ◌≡◌ {A = ℕ} 0 1 = cc in omega arith)
untold false y k e = refl

module _ (l : List ℕ) (x : ℕ) where
  pub after_found : {a : Beside} → Some a ≡ after_in l x → (has x l ≡ true) × (a.vertex ≡ next l x)
  unfolding after_in
  after_found e = told (has x l) _ _ _ e

  pub after_not_found : None ≡ after_in l x → has x l ≡ false
  unfolding after_in
  after_not_found e = untold (has x l) _ _ e

  pub before_found : {a : Beside} → Some a ≡ before_in l x → (has x l ≡ true) × (a.vertex ≡ prev l x)
  unfolding before_in
  before_found e = told (has x l) _ _ _ e

  pub before_not_found : None ≡ before_in l x → has x l ≡ false
  unfolding before_in
  before_not_found e = untold (has x l) _ _ e
