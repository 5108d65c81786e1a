-- Stack vertices by level and number: vertex x of level k is stack vertex `level_start k + x`, and back, `level_of` and `number_in` tell k and x.
-- Assumes nothing.
use mathlib.Core.Path.{◌≡◌, ap, subst}
use Prim.Native.Nat.{ℕ, suc, ◌+◌, ◌≤◌, ◌<◌}
use native.Mathlib.Omega.{arith}
use Rattle.mesh.specs.Search.{find}
use Rattle.mesh.proofs.Lists.{climbs, find_step, one_step}
use Rattle.steps.specs.Sizes.{Sizes}
use Rattle.stack_judge.specs.Stack.{level_count, level_start, stack_count, level_of, number_in}
use Rattle.stack_judge.proofs.Sizes.{start_none, start_suc}

module _ (s : Sizes) where
  starts_step : (k : ℕ) → level_start s k ≤ level_start s (suc k)
  starts_step k = omega (arith, start_suc s k)

  -- levels lie one after the other
  pub starts_climb : (j k : ℕ) → j ≤ k → level_start s j ≤ level_start s k
  starts_climb j k l = climbs (level_start s) starts_step j k l

  module _ (levels : ℕ) where
    -- a level's vertices lie in the stack
    pub vertex_in : (k x : ℕ) → k ≤ levels → x < level_count s k → level_start s k + x < stack_count s levels
    unfolding stack_count
    vertex_in k x l h = omega (arith, start_suc s k, starts_climb (suc k) (suc levels) (omega arith))

    -- each stack vertex is one vertex of one level
    pub stack_vertex : (j : ℕ) → j < stack_count s levels
        → (level_of s levels j ≤ levels) × ((level_start s (level_of s levels j) + number_in s levels j ≡ j) × (number_in s levels j < level_count s (level_of s levels j)))
    unfolding stack_count level_of number_in
    stack_vertex j l =
        let k : ℕ = find (level_start s) j (suc levels) in
        let f = find_step (level_start s) j (suc levels) (omega (arith, start_none s)) l in
        let z : level_start s k ≤ j = f.1 in
        let y : j < level_start s (suc k) = f.2 in
        (omega arith, (omega arith, omega (arith, start_suc s k)))

    -- so what holds of every vertex of every level holds of every stack vertex
    pub by_levels : (Q : ℕ → Type 0) → ((k x : ℕ) → k ≤ levels → x < level_count s k → Q (level_start s k + x)) → (j : ℕ) → j < stack_count s levels → Q j
    by_levels Q each j l = let f = stack_vertex j l in subst Q f.1.0 (each (level_of s levels j) (number_in s levels j) f.0 f.1.1)

    module _ (k x : ℕ) (l : k ≤ levels) (h : x < level_count s k) where
      pub level_of_lem : level_of s levels (level_start s k + x) ≡ k
      unfolding stack_count level_of
      level_of_lem =
          let j : ℕ = level_start s k + x in
          let f = find_step (level_start s) j (suc levels) (omega (arith, start_none s)) (vertex_in k x l h) in
          one_step (level_start s) starts_step j (find (level_start s) j (suc levels)) k f.1 f.2 (omega arith) (omega (arith, start_suc s k))

      pub number_in_lem : number_in s levels (level_start s k + x) ≡ x
      unfolding number_in
      number_in_lem = let f : level_start s (level_of s levels (level_start s k + x)) ≡ level_start s k = ap (level_start s) level_of_lem in omega arith
