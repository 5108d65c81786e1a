-- What refinement answers and leaves in the tables, by the verdict: refused, it changes no table and answers the reason; accepted, it writes all levels
-- and answers the counts of the last. Assumes nothing.
use mathlib.Core.Path.{◌≡◌, refl}
use mathlib.Core.List.{List}
use Prim.Native.Nat.{ℕ}
use lib.IntN.{ℤ}
use Rattle.mesh.specs.Mesh.{edges, faces}
use Rattle.loop_step.specs.Refine.{level}
use Rattle.rings.specs.Table.{lent, Lent, rows}
use Rattle.rings.specs.Verdict.{after, with_counts}
use Rattle.rings.specs.declared.Refusal.{Refusal}
use Rattle.stack_judge.specs.Accepts.{AcceptsStack}
use Rattle.stack_judge.specs.StackVerdict.{stack_verdict}
use Rattle.stack_judge.proofs.AcceptedStack.{stack_only}
use Rattle.stack_refine.specs.Refinement.{stacked_valences, stacked_rings, stacked_positions, refine_answer, refine_valences, refine_rings, refine_positions}
use Rattle.rings.specs.Refusal.{Verdict, counted}
use Rattle.std.specs.Prelude.{Ok, Err}

module _ (n levels : ℕ) (t : Lent) (ps : List ℤ) where
  module _ (r : Refusal) (e : Err r ≡ stack_verdict n levels t ps) where
    pub refused_answer : Err r ≡ refine_answer n levels t ps
    unfolding refine_answer with_counts
    refused_answer = rw (← e)

    pub refused_tables : (t.valences ≡ refine_valences n levels t ps) × ((t.rings ≡ refine_rings n levels t ps) × (ps ≡ refine_positions n levels t ps))
    unfolding refine_valences refine_rings refine_positions after
    refused_tables = (rw (← e), (rw (← e), rw (← e)))

  module _ (e : (Ok tt) ≡ stack_verdict n levels t ps) where
    pub accepted_answer : counted (level (rows n t) levels).count (edges (level (rows n t) levels)) (faces (level (rows n t) levels)) ≡ refine_answer n levels t ps
    unfolding refine_answer with_counts
    accepted_answer = rw (← e)

    pub accepted_valences : stacked_valences n levels t ≡ refine_valences n levels t ps
    unfolding refine_valences after
    accepted_valences = rw (← e)

    pub accepted_rings : stacked_rings n levels t ≡ refine_rings n levels t ps
    unfolding refine_rings after
    accepted_rings = rw (← e)

    pub accepted_positions : stacked_positions n levels t ps ≡ refine_positions n levels t ps
    unfolding refine_positions after
    accepted_positions = rw (← e)

  -- what holds of the old tables, and of the stacked ones where the stack is accepted, holds after the call
  pub by_verdict : (Q : Lent → List ℤ → Type 0) → Q t ps
      → (AcceptsStack n levels t ps → Q (lent (stacked_valences n levels t) (stacked_rings n levels t)) (stacked_positions n levels t ps))
      → Q (lent (refine_valences n levels t ps) (refine_rings n levels t ps)) (refine_positions n levels t ps)
  unfolding refine_valences refine_rings refine_positions after
  by_verdict Q old new = go (stack_verdict n levels t ps) refl
    where
      go : (w : Verdict) → stack_verdict n levels t ps ≡ w → Q (lent (after w (stacked_valences n levels t) t.valences) (after w (stacked_rings n levels t) t.rings)) (after w (stacked_positions n levels t ps) ps)
      go (Ok u) e = new (stack_only n levels t ps e)
      go (Err r) e = old
