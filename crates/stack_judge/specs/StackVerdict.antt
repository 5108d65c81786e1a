-- To be believed.
-- May a stack stand in the lent tables? Document 01, "What comes back when we say no": what is refused, and in which order. Assumes nothing.
use Rattle.std.specs.Prelude.{List, ℕ, suc, ℤ, Ok}
use Rattle.steps.specs.Sizes.{sizes_of}
use Rattle.rings.specs.Table.{Lent, rows}
use Rattle.rings.specs.Verdict.{refuse_if, refuse_at, and_then}
use Rattle.rings.specs.Check.{check_verdict}
use Rattle.rings.specs.declared.Refusal.TheVariants.{LevelCount, LevelTooLarge, NoRoom}
use Rattle.stack_judge.specs.Stack.{stack_count, bad_levels, too_large, short_stack}
use Rattle.rings.specs.Refusal.{Verdict}

-- 8, then the check, then 9 over levels 0 to L, then 10
unfoldable pub stack_verdict : ℕ → ℕ → Lent → List ℤ → Verdict
stack_verdict n levels t ps =
    refuse_if (bad_levels levels) LevelCount
    (and_then (check_verdict n t ps)
    (refuse_at (too_large (sizes_of n (rows n t))) (suc levels) LevelTooLarge
    (refuse_if (short_stack (stack_count (sizes_of n (rows n t)) levels) t ps) NoRoom
    (Ok tt))))
