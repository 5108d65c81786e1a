-- To be believed.
-- What a stack's judgement accepts, in document 01's terms. Assumes nothing.
use Rattle.std.specs.Prelude.{List, ℕ, ◌*◌, ◌≤◌, ℤ, length}
use Rattle.mesh.specs.Limits.{least_levels, most_levels, most_vertices}
use Rattle.steps.specs.Sizes.{sizes_of}
use Rattle.rings.specs.Table.{Lent, rows}
use Rattle.rings.specs.Accepts.{Room, Accepts}
use Rattle.stack_judge.specs.Stack.{level_count, stack_count}

-- L is 1 to 4, the check accepts the control mesh, no level has more than 65,535 vertices, and the tables have room for all levels
pub record AcceptsStack (n levels : ℕ) (t : Lent) (ps : List ℤ) : Type 0 where
  pub low : least_levels ≤ levels
  pub high : levels ≤ most_levels
  pub control : Accepts n t ps
  pub fits : (k : ℕ) → k ≤ levels → level_count (sizes_of n (rows n t)) k ≤ most_vertices
  pub room : Room (stack_count (sizes_of n (rows n t)) levels) t
  pub points : stack_count (sizes_of n (rows n t)) levels * 3 ≤ length ps
