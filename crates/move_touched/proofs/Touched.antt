-- Which points of the next level are touched: the dependents of the vertices that are touched below; and the numbers of the map. Assumes nothing.
use Prim.Native.Nat.{ℕ, ◌+◌, ◌≤◌, ◌<◌}
use mathlib.Core.Path.{◌≡◌}
use mathlib.Core.Bool.{Bool, ◌&&◌}
use mathlib.Core.List.{List}
use native.Mathlib.Omega.{arith}
use lib.ListN.{length}
use Rattle.mesh.specs.Search.{some}
use Rattle.mesh.specs.Ring.{has}
use Rattle.mesh.specs.Mesh.{Mesh, Sound, edges}
use Rattle.steps.specs.Mask.{touched}
use Rattle.steps.proofs.TouchedPoints.{touched_same}
use Rattle.loop_step.specs.Refine.{refine, level}
use Rattle.loop_step.specs.Loop.{loop}
use Rattle.loop_step.specs.Dependents.{dependents}
use Rattle.loop_step.proofs.Levels.{loop_grounded}
use Rattle.loop_step.proofs.DependentsAreTouched.{touched_is_dependent}
use Rattle.rings.specs.Table.{Lent}
use Rattle.move_touched.specs.NextLevel.{touched_next, InMap, BothLevels}

pub in_map : (a : ℕ) {b : ℕ} {map : List ℕ} → InMap b map → a ≤ b → InMap a map
in_map a m h = let s = m.small in let r = m.room in record { small = omega arith; room = omega arith }

pub in_map_long : {end : ℕ} {map map' : List ℕ} → InMap end map → length map' ≡ length map → InMap end map'
in_map_long m e = record { small = m.small; room = rw e m.room }

pub both_long : {base n : ℕ} {t : Lent} {map map' : List ℕ} → BothLevels base n t map → length map' ≡ length map → BothLevels base n t map'
both_long b e = record { numbers = in_map_long b.numbers e; ready = b.ready; rings = b.rings }

module _ (M : Mesh) (below : ℕ → Bool) (S : Sound M) where
  -- what is touched depends on the level below alone
  pub next_same : (below' : ℕ → Bool) → ((v : ℕ) → v < M.count → below v ≡ below' v) → (x : ℕ) → x < M.count + edges M
      → touched_next M below x ≡ touched_next M below' x
  unfolding loop level refine touched_next touched
  next_same below' same x h = touched_same (loop M) (loop_grounded M S) below below' same 1 x h

  -- a dependent of a touched vertex
  pub touched_dependent : (x : ℕ) → x < M.count + edges M → touched_next M below x ≡ some (λ v. below v && has x (dependents M v)) M.count
  unfolding touched_next
  touched_dependent x h = touched_is_dependent M S below x h
