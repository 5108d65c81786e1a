-- `ground` meets its contract. Assumes nothing.
use mathlib.Core.Path.{refl}
use native.Mathlib.Omega.{arith}
use Rattle.stack_judge.specs.Stack.{level_start}
use Rattle.stack_judge.specs.LevelAt.{level_at}
use Rattle.stack_judge.proofs.level.ground.Goals as goal

pub overflow_mul-result : goal.overflow_mul-result
overflow_mul-result c = omega (arith, c.requires)

pub returns : goal.returns
unfolding level_at level_start
returns c = refl
