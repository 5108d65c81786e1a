-- The touched points of any family of masks (document 01, "Moves"): they depend only on which control vertices are named, and so does their count;
-- with none named none is touched; with more named no fewer are.
-- Assumes nothing.
use mathlib.Core.Path.{◌≡◌, refl, ap}
use mathlib.Core.Bool.{Bool, true, false, ◌||◌}
use mathlib.Core.List.{List, [], ◌∷◌}
use Prim.Native.Nat.{ℕ, zero, suc, ◌<◌}
use Rattle.mesh.specs.Search.{bit}
use Rattle.mesh.proofs.Lists.{sum_same, sum_zero}
use Rattle.steps.specs.Mask.{Term, any_source, SourcesBelow, Steps, Grounded, touched, touched_count}

pub any_same : (n : ℕ) (hit hit' : ℕ → Bool) → ((v : ℕ) → v < n → hit v ≡ hit' v) → (ts : List Term) → SourcesBelow n ts → any_source hit ts ≡ any_source hit' ts
any_same n hit hit' same [] b = refl
any_same n hit hit' same (t ∷ ts) b = rw (same t.source b.0, any_same n hit hit' same ts b.1)

any_none : (n : ℕ) (hit : ℕ → Bool) → ((v : ℕ) → v < n → hit v ≡ false) → (ts : List Term) → SourcesBelow n ts → any_source hit ts ≡ false
any_none n hit none [] b = refl
any_none n hit none (t ∷ ts) b = rw (none t.source b.0, any_none n hit none ts b.1)

any_more : (n : ℕ) (hit hit' : ℕ → Bool) → ((v : ℕ) → v < n → hit v ≡ true → hit' v ≡ true) → (ts : List Term) → SourcesBelow n ts
    → any_source hit ts ≡ true → any_source hit' ts ≡ true
any_more n hit hit' more [] b e = e
any_more n hit hit' more (t ∷ ts) b e = go (hit t.source) (hit' t.source) (more t.source b.0) (any_more n hit hit' more ts b.1) e
  where
    go : (c d : Bool) → (c ≡ true → d ≡ true) → (any_source hit ts ≡ true → any_source hit' ts ≡ true) → c || any_source hit ts ≡ true → d || any_source hit' ts ≡ true
    go true d f g e = rw (f refl)
    go false true f g e = refl
    go false false f g e = g e

module _ (S : Steps) (grounded : Grounded S) where
  -- the touched points depend only on which control points are named
  pub touched_same : (named named' : ℕ → Bool) → ((v : ℕ) → v < S.size 0 → named v ≡ named' v) → (k x : ℕ) → x < S.size k → touched S named k x ≡ touched S named' k x
  unfolding touched
  touched_same named named' same zero v h = same v h
  touched_same named named' same (suc k) x h =
      any_same (S.size k) (touched S named k) (touched S named' k) (touched_same named named' same k) (S.mask k x).terms (grounded k x h)

  -- none named, none touched
  pub touched_none : (named : ℕ → Bool) → ((v : ℕ) → v < S.size 0 → named v ≡ false) → (k x : ℕ) → x < S.size k → touched S named k x ≡ false
  unfolding touched
  touched_none named none zero v h = none v h
  touched_none named none (suc k) x h = any_none (S.size k) (touched S named k) (touched_none named none k) (S.mask k x).terms (grounded k x h)

  -- more named, more touched
  pub touched_more : (named named' : ℕ → Bool) → ((v : ℕ) → v < S.size 0 → named v ≡ true → named' v ≡ true) → (k x : ℕ) → x < S.size k
      → touched S named k x ≡ true → touched S named' k x ≡ true
  unfolding touched
  touched_more named named' more zero v h e = more v h e
  touched_more named named' more (suc k) x h e =
      any_more (S.size k) (touched S named k) (touched S named' k) (touched_more named named' more k) (S.mask k x).terms (grounded k x h) e

-- ---- their count

module _ (S : Steps) (grounded : Grounded S) where
  pub count_same : (named named' : ℕ → Bool) → ((v : ℕ) → v < S.size 0 → named v ≡ named' v) → (n : ℕ) → touched_count S named n ≡ touched_count S named' n
  unfolding touched_count
  count_same named named' same n = sum_same _ _ n (λ k h. sum_same _ _ (S.size k) (λ x g. ap bit (touched_same S grounded named named' same k x g)))

  pub count_none : (named : ℕ → Bool) → ((v : ℕ) → v < S.size 0 → named v ≡ false) → (n : ℕ) → touched_count S named n ≡ 0
  unfolding touched_count
  count_none named none n = sum_zero _ n (λ k h. sum_zero _ (S.size k) (λ x g. ap bit (touched_none S grounded named none k x g)))
