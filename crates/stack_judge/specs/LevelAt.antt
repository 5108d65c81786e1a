-- For inside.
-- A level as the code goes over levels: where it begins, and its sizes.
-- Assumes nothing.
use Rattle.std.specs.Prelude.{ℕ, ◌+◌, ◌≤◌}
use Rattle.steps.specs.Sizes.{Sizes}
use Rattle.loop_step.specs.Loop.{loop_sizes}
use Rattle.stack_judge.specs.declared.level.Level.{Level}
use Rattle.stack_judge.specs.Stack.{sizes_at, level_start}

-- a level that begins at stack vertex b
abbrev pub level_from : ℕ → Sizes → Level
level_from b s = record { start = b; vertices = s.vertices; edges = s.edges; faces = s.faces }

-- level k of a stack with s at level 0
unfoldable pub level_at : Sizes → ℕ → Level
level_at s k = level_from (level_start s k) (sizes_at s k)

-- its sizes
abbrev pub level_sizes : Level → Sizes
level_sizes l = record { vertices = l.vertices; edges = l.edges; faces = l.faces }

-- the level above begins where this one ends
unfoldable pub above_level : Level → Level
above_level l = level_from (l.start + l.vertices) (loop_sizes (level_sizes l))

-- the numbers of a level from which the level above is worked out are no larger than this
abbrev pub size_bound : ℕ
size_bound = 1099511627776

pub record SmallLevel (l : Level) : Type 0 where
  pub start : l.start ≤ size_bound
  pub vertices : l.vertices ≤ size_bound
  pub edges : l.edges ≤ size_bound
  pub faces : l.faces ≤ size_bound
