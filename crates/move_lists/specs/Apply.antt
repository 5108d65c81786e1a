-- To be believed.
-- A list of moves as one call (section "Moves"): the refusals in their order, then the positions and the map after it. Nothing else is written.
-- Assumes nothing.
use Rattle.std.specs.Prelude.{Bool, List, ℕ, suc, ltb, ℤ, length, Ok}
use Rattle.mesh.specs.Limits.{most_moves}
use Rattle.steps.specs.Mask.{touched, touched_count}
use Rattle.steps.specs.Sizes.{sizes_of}
use Rattle.loop_step.specs.Loop.{loop}
use Rattle.rings.specs.Table.{Lent, put, rows}
use Rattle.rings.specs.Verdict.{refuse_if, refuse_at, and_then, after, with_amount}
use Rattle.rings.specs.declared.Refusal.TheVariants.{NoRoom, StackAltered, TooManyMoves}
use Rattle.stack_judge.specs.Stack.{level_of, number_in}
use Rattle.stack_judge.specs.StackVerdict.{stack_verdict}
use Rattle.move_map.specs.Map.{word_count, map_words}
use Rattle.stack_strange.specs.Expected.{whole, strange}
use Rattle.move_refresh.specs.Stack.{refreshed_positions}
use Rattle.move_plan.specs.Moves.{Pending, pending, run, named, pending_verdict, pending_points}
use Rattle.move_plan.specs.declared.Move.{Move}
use Rattle.rings.specs.Refusal.{Amount, Verdict}

module _ (n levels : ℕ) (t : Lent) (ps : List ℤ) where
  -- what is judged before the first move, for a map of so many words and so many moves: 8, the check, 9, 10 for the tables and the map, 11, 12
  unfoldable pub before_moves : ℕ → ℕ → Verdict
  before_moves words moves =
      and_then (stack_verdict n levels t ps)
      (refuse_if (ltb words (word_count (whole n levels t ps))) NoRoom
      (refuse_at (strange n levels t ps) (whole n levels t ps) StackAltered
      (refuse_if (ltb most_moves moves) TooManyMoves
      (Ok tt))))

  -- stack vertex j is touched where these control vertices are named
  unfoldable pub touched_at : (ℕ → Bool) → ℕ → Bool
  touched_at names j = touched (loop (rows n t)) names (level_of (sizes_of n (rows n t)) levels j) (number_in (sizes_of n (rows n t)) levels j)

  -- how many points of the stack are touched
  unfoldable pub touched_total : (ℕ → Bool) → ℕ
  touched_total names = touched_count (loop (rows n t)) names (suc levels)

  -- a map with the touched points marked
  unfoldable pub touched_map : (ℕ → Bool) → List ℕ → List ℕ
  touched_map names map = put map 0 (map_words (touched_at names) (whole n levels t ps))

module _ (n levels : ℕ) (t : Lent) (ps : List ℤ) (map : List ℕ) (ms : List Move) where
  -- the moves worked out, all or none
  unfoldable pub moved : Pending
  moved = run n ms 0 (pending ps)

  -- the control points once all moves are done
  unfoldable pub moved_control : List ℤ
  moved_control = pending_points moved ps

  -- everything that is judged, in order
  unfoldable pub apply_verdict : Verdict
  apply_verdict = and_then (before_moves n levels t ps (length map) (length ms)) (pending_verdict moved)

  -- what the call answers: how many points it touched
  unfoldable pub apply_answer : Amount
  apply_answer = with_amount apply_verdict (touched_total n levels t ps (named ms))

  -- the positions after the call: the moved control points, and each level above with its touched points set and the others as they were
  unfoldable pub apply_positions : List ℤ
  apply_positions = after apply_verdict (refreshed_positions n t (named ms) moved_control levels) ps

  -- the map after the call
  unfoldable pub apply_map : List ℕ
  apply_map = after apply_verdict (touched_map n levels t ps (named ms) map) map
