-- Refreshing only the touched points gives what refining all of them gives: for any family of masks, over any number of levels.
-- Assumes nothing.
use mathlib.Core.Path.{◌≡◌, refl, sym, ap₂, ◌∙◌}
use mathlib.Core.Bool.{Bool, true, false, ◌||◌, cond}
use mathlib.Core.List.{List, [], ◌∷◌}
use Prim.Native.Nat.{ℕ, zero, suc, ◌≤◌, ◌<◌}
use native.Mathlib.Omega.{arith}
use lib.IntN.{ℤ}
use Rattle.steps.specs.Mask.{Term, weighted, any_source, SourcesBelow, by_mask, Steps, Grounded, touched, refined, refreshed}
use Rattle.steps.proofs.TouchedPoints.{touched_same}

-- two levels that agree at the sources give one value
pub weighted_same : (n : ℕ) (f g : ℕ → ℤ) → ((v : ℕ) → v < n → f v ≡ g v) → (ts : List Term) → SourcesBelow n ts → weighted ts f ≡ weighted ts g
weighted_same n f g same [] b = refl
weighted_same n f g same (t ∷ ts) b = rw (same t.source b.0, weighted_same n f g same ts b.1)

weighted_untouched : (n : ℕ) (hit : ℕ → Bool) (f g : ℕ → ℤ) → ((v : ℕ) → v < n → hit v ≡ false → f v ≡ g v) → (ts : List Term) → SourcesBelow n ts
    → any_source hit ts ≡ false → weighted ts f ≡ weighted ts g
weighted_untouched n hit f g same [] b e = refl
weighted_untouched n hit f g same (t ∷ ts) b e =
    let h = or_false (hit t.source) (any_source hit ts) e in
    rw (same t.source b.0 h.0, weighted_untouched n hit f g same ts b.1 h.1)
  where
    or_false : (a b : Bool) → a || b ≡ false → (a ≡ false) × (b ≡ false)
    or_false true b e = (e, cc)
    or_false false b e = (refl, e)

module _ (S : Steps) (grounded : Grounded S) where
  -- the masks see only the points of the level below
  pub by_mask_same : (k x : ℕ) → x < S.size (suc k) → (f g : ℕ → ℤ) → ((v : ℕ) → v < S.size k → f v ≡ g v)
      → by_mask (S.mask k x) f ≡ by_mask (S.mask k x) g
  unfolding by_mask
  by_mask_same k x h f g same = rw (weighted_same (S.size k) f g same (S.mask k x).terms (grounded k x h))

  module _ (named : ℕ → Bool) (before after : ℕ → ℤ) (moved : (v : ℕ) → v < S.size 0 → named v ≡ false → after v ≡ before v) where
    -- a point that is not touched is where it was
    pub untouched_keeps : (k x : ℕ) → x < S.size k → touched S named k x ≡ false → refined S after k x ≡ refined S before k x
    unfolding touched refined by_mask
    untouched_keeps zero v h e = moved v h e
    untouched_keeps (suc k) x h e =
        rw (weighted_untouched (S.size k) (touched S named k) (refined S after k) (refined S before k) (untouched_keeps k) (S.mask k x).terms (grounded k x h) e)

    -- so from a stack that holds what the masks give up to level k, a partial refresh is a whole one up to level k
    pub refreshed_to : (held : ℕ → ℕ → ℤ) (k : ℕ) → ((j x : ℕ) → j ≤ k → x < S.size j → held j x ≡ refined S before j x)
        → (x : ℕ) → x < S.size k → refreshed S named held after k x ≡ refined S after k x
    unfolding refined refreshed
    refreshed_to held zero was v h = refl
    refreshed_to held (suc k) was x h =
        go (by_mask_same k x h (refreshed S named held after k) (refined S after k) (refreshed_to held k (λ j y l. was j y (omega arith)))) (touched S named (suc k) x) refl
      where
        go : by_mask (S.mask k x) (refreshed S named held after k) ≡ by_mask (S.mask k x) (refined S after k)
            → (b : Bool) → touched S named (suc k) x ≡ b → refreshed S named held after (suc k) x ≡ refined S after (suc k) x
        go below true e = rw e below
        go below false e = rw e (was (suc k) x (omega arith) h ∙ sym (untouched_keeps (suc k) x h e))

-- ---- what a level depends on

module _ (S : Steps) (grounded : Grounded S) where
  -- every level depends only on the control points
  pub refined_same : (control control' : ℕ → ℤ) → ((v : ℕ) → v < S.size 0 → control v ≡ control' v) → (k x : ℕ) → x < S.size k → refined S control k x ≡ refined S control' k x
  unfolding refined
  refined_same control control' same zero v h = same v h
  refined_same control control' same (suc k) x h =
      by_mask_same S grounded k x h (refined S control k) (refined S control' k) (refined_same control control' same k)

  -- a refreshed level depends only on the named control vertices, the control points and what is held above level 0 up to it
  pub refreshed_same : (named named' : ℕ → Bool) → ((v : ℕ) → v < S.size 0 → named v ≡ named' v)
      → (control control' : ℕ → ℤ) → ((v : ℕ) → v < S.size 0 → control v ≡ control' v)
      → (held held' : ℕ → ℕ → ℤ) (k : ℕ) → ((j x : ℕ) → j < k → x < S.size (suc j) → held (suc j) x ≡ held' (suc j) x)
      → (x : ℕ) → x < S.size k → refreshed S named held control k x ≡ refreshed S named' held' control' k x
  unfolding refreshed
  refreshed_same named named' names control control' points held held' zero was v h = points v h
  refreshed_same named named' names control control' points held held' (suc k) was x h =
      rw (touched_same S grounded named named' names (suc k) x h)
      (ap₂ (λ (a b : ℤ). cond (touched S named' (suc k) x) a b)
      (by_mask_same S grounded k x h (refreshed S named held control k) (refreshed S named' held' control' k)
      (refreshed_same named named' names control control' points held held' k (λ j y l. was j y (omega arith))))
      (was k x (omega arith) h))

-- what a refresh does at one point above level 0
module _ (S : Steps) (named : ℕ → Bool) (held : ℕ → ℕ → ℤ) (control : ℕ → ℤ) (k x : ℕ) where
  -- an untouched one keeps what it holds
  pub refreshed_untouched : touched S named (suc k) x ≡ false → refreshed S named held control (suc k) x ≡ held (suc k) x
  unfolding refreshed
  refreshed_untouched e = rw e

  -- a touched one is set by its mask
  pub refreshed_touched : touched S named (suc k) x ≡ true → refreshed S named held control (suc k) x ≡ by_mask (S.mask k x) (refreshed S named held control k)
  unfolding refreshed
  refreshed_touched e = rw e
