-- `above` meets its contract. Assumes nothing.
use mathlib.Core.Path.{refl}
use native.Mathlib.Omega.{arith}
use Rattle.stack_judge.specs.LevelAt.{above_level}
use Rattle.stack_judge.proofs.level.above.Goals as goal

pub overflow_add-result : goal.overflow_add-result
overflow_add-result c = let small = c.requires in omega (arith, small.start, small.vertices, small.edges, small.faces)

pub overflow_add-result-2 : goal.overflow_add-result-2
overflow_add-result-2 c = let small = c.requires in omega (arith, small.start, small.vertices, small.edges, small.faces)

pub overflow_mul-result : goal.overflow_mul-result
overflow_mul-result c = let small = c.requires in omega (arith, small.start, small.vertices, small.edges, small.faces)

pub overflow_mul-result-2 : goal.overflow_mul-result-2
overflow_mul-result-2 c = let small = c.requires in omega (arith, small.start, small.vertices, small.edges, small.faces)

pub overflow_add-result-3 : goal.overflow_add-result-3
overflow_add-result-3 c = let small = c.requires in omega (arith, small.start, small.vertices, small.edges, small.faces)

pub overflow_mul-result-3 : goal.overflow_mul-result-3
overflow_mul-result-3 c = let small = c.requires in omega (arith, small.start, small.vertices, small.edges, small.faces)

pub returns : goal.returns
unfolding above_level
returns c = refl
