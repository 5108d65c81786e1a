-- To be believed.
-- The call `refine` (document 01, "What comes back when we say no" and "Refinement, one level"): what is answered, and the three tables after the call.
-- Assumes nothing.
use Rattle.std.specs.Prelude.{List, ℕ, suc, ◌*◌, ℤ}
use Rattle.mesh.specs.Limits.{most_valence}
use Rattle.mesh.specs.Mesh.{Mesh, edges, faces}
use Rattle.steps.specs.Mask.{refined}
use Rattle.loop_step.specs.Refine.{level}
use Rattle.loop_step.specs.Loop.{loop}
use Rattle.rings.specs.Table.{Lent, gather, put, rows, valence_rows, ring_rows, coordinate_at, point_rows}
use Rattle.rings.specs.Verdict.{after, with_counts}
use Rattle.stack_judge.specs.StackVerdict.{stack_verdict}
use Rattle.rings.specs.Refusal.{Counted}

-- the tables once levels 1 to k stand right behind level 0; all else is as it was
module _ (n k : ℕ) (t : Lent) where
  unfoldable pub stacked_valences : List ℕ
  stacked_valences = put t.valences n (gather (λ j. valence_rows (level (rows n t) (suc j)).ring (level (rows n t) (suc j)).count) k)

  -- their rings
  unfoldable pub stacked_rings : List ℕ
  stacked_rings = put t.rings (n * most_valence) (gather (λ j. ring_rows (level (rows n t) (suc j)).ring (level (rows n t) (suc j)).count) k)

  -- their points
  unfoldable pub stacked_positions : List ℤ → List ℤ
  stacked_positions ps =
      put ps (n * 3)
      (gather (λ j. point_rows (λ axis. refined (loop (rows n t)) (coordinate_at ps axis) (suc j)) (level (rows n t) (suc j)).count) k)

module _ (n levels : ℕ) (t : Lent) (ps : List ℤ) where
  -- the control mesh
  abbrev control : Mesh
  control = rows n t

  -- what refinement answers: V, E and F of level L
  unfoldable pub refine_answer : Counted
  refine_answer = with_counts (stack_verdict n levels t ps) (level control levels).count (edges (level control levels)) (faces (level control levels))

  -- the tables after the call: all levels written where it is accepted
  unfoldable pub refine_valences : List ℕ
  refine_valences = after (stack_verdict n levels t ps) (stacked_valences n levels t) t.valences

  -- the rings after the call
  unfoldable pub refine_rings : List ℕ
  refine_rings = after (stack_verdict n levels t ps) (stacked_rings n levels t) t.rings

  -- the positions after the call
  unfoldable pub refine_positions : List ℤ
  refine_positions = after (stack_verdict n levels t ps) (stacked_positions n levels t ps) ps
