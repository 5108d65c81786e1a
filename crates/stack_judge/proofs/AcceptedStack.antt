-- The stack's judgement accepts exactly what `AcceptsStack` says: L is 1 to 4, the check accepts the control mesh, no level has over 65,535 vertices,
-- and the tables have room for all levels. Assumes nothing.
use mathlib.Core.Path.{◌≡◌, ap, ◌∙◌}
use mathlib.Core.List.{List}
use Prim.Native.Nat.{ℕ, suc, ◌*◌}
use native.Mathlib.Omega.{arith}
use lib.IntN.{ℤ}
use lib.ListN.{length}
use borrow.Author.Tests.{le-ltb}
use Rattle.mesh.specs.Limits.{most_vertices}
use Rattle.mesh.proofs.First.{or_both}
use Rattle.steps.specs.Sizes.{sizes_of}
use Rattle.rings.specs.Table.{Lent, rows}
use Rattle.rings.specs.Check.{check_verdict}
use Rattle.rings.specs.Verdict.{refuse_if, refuse_at, and_then}
use Rattle.rings.specs.declared.Refusal.TheVariants.{LevelTooLarge, NoRoom}
use Rattle.rings.proofs.Verdicts.{if_accepted, at_accepted, then_accepted, if_clear, at_clear}
use Rattle.rings.proofs.Accepted.{accepted_only, accepted_all}
use Rattle.stack_judge.specs.Stack.{level_count, stack_count, bad_levels, too_large, short_stack}
use Rattle.stack_judge.specs.Accepts.{AcceptsStack}
use Rattle.stack_judge.specs.StackVerdict.{stack_verdict}
use Rattle.stack_judge.proofs.Judged.{good_levels, level_fits, stack_room}
use Rattle.rings.specs.Refusal.{Verdict}
use Rattle.std.specs.Prelude.{Ok}

module _ (n levels : ℕ) (t : Lent) (ps : List ℤ) where
  pub stack_only : stack_verdict n levels t ps ≡ (Ok tt) → AcceptsStack n levels t ps
  unfolding stack_verdict
  stack_only h =
      let a = if_accepted (bad_levels levels) _ _ h in
      let b = then_accepted (check_verdict n t ps) _ a.1 in
      let c = at_accepted (too_large (sizes_of n (rows n t))) (suc levels) _ _ b.1 in
      let d = if_accepted (short_stack (stack_count (sizes_of n (rows n t)) levels) t ps) _ _ c.1 in
      let r = stack_room (stack_count (sizes_of n (rows n t)) levels) t ps d.0 in
      record {
        low = (good_levels levels a.0).0;
        high = (good_levels levels a.0).1;
        control = accepted_only n t ps b.0;
        fits = λ k l. level_fits (sizes_of n (rows n t)) k (c.0.below k (omega arith));
        room = r.0;
        points = r.1;
      }

  pub stack_all : AcceptsStack n levels t ps → stack_verdict n levels t ps ≡ (Ok tt)
  unfolding stack_verdict bad_levels too_large short_stack and_then
  stack_all a =
      let m : ℕ = stack_count (sizes_of n (rows n t)) levels in
      if_clear _ _ _ (or_both _ _ (le-ltb levels 1 a.low) (le-ltb 4 levels a.high))
      ∙ ap (λ (w : Verdict). and_then w (refuse_at (too_large (sizes_of n (rows n t))) (suc levels) LevelTooLarge (refuse_if (short_stack m t ps) NoRoom (Ok tt))))
      (accepted_all n t ps a.control)
      ∙ at_clear _ (suc levels) _ _ (λ k l. le-ltb most_vertices (level_count (sizes_of n (rows n t)) k) (a.fits k (omega arith)))
      ∙ if_clear _ _ _ (or_both _ _ (le-ltb (length t.valences) m a.room.valences) (or_both _ _ (le-ltb (length t.rings) (m * 32) a.room.rings) (le-ltb (length ps) (m * 3) a.points)))
