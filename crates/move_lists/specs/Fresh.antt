-- To be believed.
-- What demand 3 speaks of: tables whose every level is what refining the control points gives, and the positions after several lists of moves.
-- Assumes nothing.
use Rattle.std.specs.Prelude.{ℕ, ◌+◌, ◌≤◌, ◌<◌, ◌≡◌, List, [], ◌∷◌, ℤ}
use Rattle.steps.specs.Mask.{refined}
use Rattle.steps.specs.Sizes.{sizes_of}
use Rattle.loop_step.specs.Refine.{level}
use Rattle.loop_step.specs.Loop.{loop}
use Rattle.rings.specs.Table.{Lent, rows, coordinate_at}
use Rattle.stack_judge.specs.Stack.{level_start}
use Rattle.move_plan.specs.declared.Move.{Move}
use Rattle.move_lists.specs.Apply.{apply_positions}

-- every coordinate of levels 0 to L is what refining the control points gives
pub record Fresh (n levels : ℕ) (t : Lent) (ps : List ℤ) : Type 0 where
  pub fresh : (axis : ℕ) → axis < 3 → (k x : ℕ) → k ≤ levels → x < (level (rows n t) k).count
      → coordinate_at ps axis (level_start (sizes_of n (rows n t)) k + x) ≡ refined (loop (rows n t)) (coordinate_at ps axis) k x

-- one call with a list: the map it is lent, and the moves
pub record ListCall : Type 0 where
  pub map : List ℕ
  pub moves : List Move

-- the positions after several calls, one after the other
abbrev pub after_calls : ℕ → ℕ → Lent → List ListCall → List ℤ → List ℤ
after_calls n levels t [] ps = ps
after_calls n levels t (c ∷ cs) ps = after_calls n levels t cs (apply_positions n levels t ps c.map c.moves)
