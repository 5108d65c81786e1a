-- To be believed.
-- The same call by the plan of its list instead of the list: what is done with a plan once the stack is judged.
-- Assumes nothing.
use Rattle.std.specs.Prelude.{List, ℕ, ℤ, length, Ok}
use Rattle.rings.specs.Table.{Lent}
use Rattle.rings.specs.Verdict.{refuse_if, and_then, after, with_amount}
use Rattle.rings.specs.declared.Refusal.TheVariants.{LevelCount}
use Rattle.stack_judge.specs.Stack.{bad_levels}
use Rattle.move_refresh.specs.Stack.{refreshed_positions}
use Rattle.move_plan.specs.Plan.{opened_plan, planned, laid, named_in}
use Rattle.move_lists.specs.Apply.{before_moves, touched_total, touched_map}
use Rattle.move_plan.specs.declared.Plan.{Plan}
use Rattle.rings.specs.Refusal.{Amount, Verdict}

-- the plan before the first move, for n control vertices and so many levels: refused already where 8 refuses
unfoldable pub first_plan : ℕ → ℕ → Plan
first_plan n levels = opened_plan n (refuse_if (bad_levels levels) LevelCount (Ok tt))

module _ (plan : Plan) (moves levels : ℕ) (t : Lent) (ps : List ℤ) (map : List ℕ) where
  -- the stack is judged, then the plan's verdict stands
  unfoldable pub settle_verdict : Verdict
  settle_verdict = and_then (before_moves plan.count levels t ps (length map) moves) plan.verdict

  -- what the call answers
  unfoldable pub settle_answer : Amount
  settle_answer = with_amount settle_verdict (touched_total plan.count levels t ps (named_in (planned plan)))

  -- the positions after the call
  unfoldable pub settle_positions : List ℤ
  settle_positions = after settle_verdict (refreshed_positions plan.count t (named_in (planned plan)) (laid ps (planned plan)) levels) ps

  -- the map after the call
  unfoldable pub settle_map : List ℕ
  settle_map = after settle_verdict (touched_map plan.count levels t ps (named_in (planned plan)) map) map
