-- The entries of a plan carried out one by one: what one more of them adds to the points and to the marks.
-- Assumes nothing.
use mathlib.Core.Path.{◌≡◌, refl, sym, fun_ext}
use mathlib.Core.Bool.{Bool, true, false, ◌||◌}
use mathlib.Core.List.{List, []}
use mathlib.Core.Logic.{⊎_elim}
use Prim.Native.Nat.{ℕ, ◌+◌, ◌<◌}
use native.Mathlib.Numerals.{add-one}
use borrow.Author.Tests.{eq-eqb, ne_eqb}
use lib.IntN.{ℤ}
use lib.ListN.{length, get_or, take}
use lib.Seq.{take-suc}
use Rattle.mesh.proofs.Lists.{eq_split}
use Rattle.move_map.specs.Map.{including}
use Rattle.move_plan.specs.Moves.{placed}
use Rattle.move_plan.specs.Plan.{named_in, with_named, laid}
use Rattle.move_plan.specs.declared.Entry.{Entry}
use Rattle.move_plan.proofs.Laid.{laid_append, named_append, or_none}

or_true : (a b : Bool) → (a || true) || b ≡ true
or_true true b = refl
or_true false b = refl

module _ (es : List Entry) (k : ℕ) (d : Entry) (h : k < length es) where
  pub laid_more : (ps : List ℤ) → placed (laid ps (take k es)) (get_or es k d).vertex (get_or es k d).point ≡ laid ps (take (k + 1) es)
  laid_more ps = sym (rw (add-one, take-suc es k d h, laid_append))

  named_at : (s : ℕ → Bool) (j : ℕ) → including (with_named s (take k es)) (get_or es k d).vertex j ≡ with_named s (take (k + 1) es) j
  unfolding including with_named
  named_at s j = ⊎_elim
      (λ e. rw (add-one, take-suc es k d h, named_append, e.0, eq-eqb (get_or es k d).vertex j (sym e.1)) (sym (or_true (named_in (take k es) j) (s j))))
      (λ e. rw (add-one, take-suc es k d h, named_append, e.0, ne_eqb (get_or es k d).vertex j (λ q. e.1 (sym q)), or_none))
      (eq_split j (get_or es k d).vertex)

  pub named_more : (s : ℕ → Bool) → including (with_named s (take k es)) (get_or es k d).vertex ≡ with_named s (take (k + 1) es)
  named_more s = fun_ext (named_at s)

pub named_none : (s : ℕ → Bool) → s ≡ with_named s []
unfolding with_named
named_none s = refl

-- what one entry more, and none, come to
pub ruleset one_entry = (laid_more, named_more, named_none)
