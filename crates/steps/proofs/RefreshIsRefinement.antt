-- Partial refreshing is whole refreshing (document 01, "Moves"; the mission's demand 3), over any family of masks and any number of levels:
-- where a stack holds what refinement gave for the old control points, and only named control points have changed,
-- setting the touched points alone gives at every level what refining the new control points gives. So it does after any sequence of lists.
-- Assumes nothing.
use mathlib.Core.Path.{◌≡◌}
use mathlib.Core.Bool.{Bool, false}
use mathlib.Core.List.{List, [], ◌∷◌}
use Prim.Native.Nat.{ℕ, ◌≤◌, ◌<◌}
use native.Mathlib.Nat.{le_trans}
use lib.IntN.{ℤ}
use Rattle.steps.specs.Mask.{Steps, Grounded, refined, refreshed}
use Rattle.steps.proofs.Refresh as R

-- the new control points differ from the old at named ones only
abbrev pub ChangedAtNamed : Steps → (ℕ → Bool) → (ℕ → ℤ) → (ℕ → ℤ) → Type 0
ChangedAtNamed S named old control = (v : ℕ) → v < S.size 0 → named v ≡ false → control v ≡ old v

-- levels 0 to top hold what refinement gives for these control points
abbrev pub HoldsRefined : Steps → ℕ → (ℕ → ℕ → ℤ) → (ℕ → ℤ) → Type 0
HoldsRefined S top held control = (k x : ℕ) → k ≤ top → x < S.size k → held k x ≡ refined S control k x

module _ (S : Steps) (grounded : Grounded S) where
  -- the theorem: for a stack of levels 0 to top
  pub refresh_is_refinement : (top : ℕ) (named : ℕ → Bool) (old control : ℕ → ℤ) (held : ℕ → ℕ → ℤ)
      → HoldsRefined S top held old → ChangedAtNamed S named old control → HoldsRefined S top (refreshed S named held control) control
  refresh_is_refinement top named old control held was changed k x l h =
      R.refreshed_to S grounded named old control changed held k (λ j y i. was j y (le_trans i l)) x h

-- one list of moves as a stack sees it, on one coordinate: the control vertices it names, and the control points it leaves
pub record Change : Type 0 where
  pub named : ℕ → Bool
  pub control : ℕ → ℤ

module _ (S : Steps) where
  -- the stack after several lists, one refresh each
  abbrev pub after_all : List Change → (ℕ → ℕ → ℤ) → ℕ → ℕ → ℤ
  after_all [] held = held
  after_all (c ∷ cs) held = after_all cs (refreshed S c.named held c.control)

  -- the control points after them
  abbrev pub last_control : List Change → (ℕ → ℤ) → ℕ → ℤ
  last_control [] old = old
  last_control (c ∷ cs) old = last_control cs c.control

  -- each list names what it changes
  abbrev pub EachNamesItsChanges : List Change → (ℕ → ℤ) → Type 0
  EachNamesItsChanges [] old = Unit {0}
  EachNamesItsChanges (c ∷ cs) old = ChangedAtNamed S c.named old c.control × EachNamesItsChanges cs c.control

  -- after any sequence of lists the stack holds what refining the last control points gives
  pub refreshes_are_refinement : Grounded S → (top : ℕ) (cs : List Change) (old : ℕ → ℤ) (held : ℕ → ℕ → ℤ)
      → HoldsRefined S top held old → EachNamesItsChanges cs old → HoldsRefined S top (after_all cs held) (last_control cs old)
  refreshes_are_refinement grounded top [] old held was each = was
  refreshes_are_refinement grounded top (c ∷ cs) old held was each =
      refreshes_are_refinement grounded top cs c.control (refreshed S c.named held c.control)
      (refresh_is_refinement S grounded top c.named old c.control held was each.0) each.1
