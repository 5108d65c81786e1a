-- No further move is looked at once the plan is refused or full. What stands behind changes nothing:
--     walk_over       the moves that are left where the walk stops leave the plan as it is
-- Assumes nothing.
use mathlib.Core.Path.{◌≡◌, refl, sym, ap, ◌∙◌}
use mathlib.Core.Bool.{true}
use mathlib.Core.List.{List, [], ◌∷◌}
use Prim.Native.Nat.{ℕ, ◌+◌, ◌≤◌, ◌<◌}
use native.Mathlib.Numerals.{add-one}
use native.Mathlib.Omega.{arith}
use borrow.Author.Tests.{leb-true}
use lib.Dec.{leb}
use lib.IntN.{ℤ}
use lib.ListN.{length, get_or, drop, drop_of_length-le}
use lib.Seq.{drop-cons}
use Rattle.rings.specs.Verdict.{after}
use Rattle.rings.specs.declared.Refusal.{Refusal}
use Rattle.move_plan.specs.Plan.{step_of, over, walk_of}
use Rattle.move_plan.specs.declared.Move.{Move}
use Rattle.move_plan.specs.declared.Plan.{Plan}
use Rattle.move_plan.proofs.Plans.{step_refused, step_full}
use Rattle.rings.specs.Refusal.{Verdict}
use Rattle.std.specs.Prelude.{Ok, Err}

pub not_both : {A : Type 0} (a : Verdict) (r : Refusal) → a ≡ (Ok tt) → a ≡ Err r → A
not_both a r p q = absurd (let z : ◌≡◌ {A = ℕ} 0 1 = cc in omega arith)

module _ (ps : List ℤ) where
  pub walk_refused : (ms : List Move) (s : Plan) (r : Refusal) → s.verdict ≡ Err r → walk_of ps ms s ≡ s
  unfolding walk_of
  walk_refused [] s r e = refl
  walk_refused (m ∷ ms) s r e = ap (walk_of ps ms) (sym (step_refused ps s m r e)) ∙ walk_refused ms s r e

  pub walk_full : (ms : List Move) (s : Plan) → s.verdict ≡ (Ok tt) → 64 ≤ s.taken → walk_of ps ms s ≡ s
  unfolding walk_of
  walk_full [] s e h = refl
  walk_full (m ∷ ms) s e h = ap (walk_of ps ms) (sym (step_full ps s m e h)) ∙ walk_full ms s e h

  module _ (rest : List Move) (s : Plan) where
    stops_by : (v : Verdict) → s.verdict ≡ v → after v (leb 64 s.taken) true ≡ true → walk_of ps rest s ≡ s
    unfolding after
    stops_by (Err r) e o = walk_refused rest s r e
    stops_by (Ok u) e o = walk_full rest s e (leb-true 64 s.taken o)

    pub walk_over : over s ≡ true → walk_of ps rest s ≡ s
    unfolding over
    walk_over = stops_by s.verdict refl

-- one move more of a list, from a plan where the walk has not stopped
pub one_more : (ps : List ℤ) (ms : List Move) (i : ℕ) (s r : Plan) (d : Move) → i < length ms → r ≡ step_of ps s (get_or ms i d)
    → walk_of ps (drop (i + 1) ms) r ≡ walk_of ps (drop i ms) s
unfolding walk_of
one_more ps ms i s r d h e = rw (add-one, drop-cons ms i d h, e)

-- no move is left
pub walk_end : (ps : List ℤ) (ms : List Move) (i : ℕ) (s : Plan) → length ms ≤ i → walk_of ps (drop i ms) s ≡ s
unfolding walk_of
walk_end ps ms i s h = rw (drop_of_length-le ms h)
