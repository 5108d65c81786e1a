-- The marks of a refreshed stack (document 01, "Moves"): which vertex each of them is, and that counted they are the touched points of all levels.
-- Assumes nothing.
use Prim.Native.Nat.{ℕ, zero, suc, ◌+◌, ◌*◌, ◌≤◌, ◌<◌}
use mathlib.Core.Path.{◌≡◌, refl, sym, ap, ap₂, ◌∙◌}
use mathlib.Core.Bool.{Bool, false}
use mathlib.Core.List.{List}
use native.Mathlib.Omega.{arith}
use lib.IntN.{ℤ}
use Rattle.mesh.specs.Search.{sum, find}
use Rattle.mesh.specs.Mesh.{Mesh}
use Rattle.mesh.proofs.Lists.{find_step}
use Rattle.steps.specs.Mask.{touched, touched_count}
use Rattle.steps.specs.Sizes.{sizes_of}
use Rattle.loop_step.specs.Refine.{level}
use Rattle.loop_step.specs.Loop.{loop}
use Rattle.rings.specs.Table.{Lent, rows}
use Rattle.stack_judge.specs.Stack.{level_start, stack_count, level_of, number_in}
use Rattle.stack_judge.specs.Accepts.{AcceptsStack}
use Rattle.stack_judge.proofs.Sizes.{level_count_lem, start_none, start_suc}
use Rattle.move_map.specs.Map.{word_count, members}
use Rattle.move_refresh.specs.Stack.{TouchedMarked}
use Rattle.move_map.proofs.Bits.{members_same, members_add}
use Rattle.move_map.proofs.Sets.{members_upto}
use Rattle.stack_refine.proofs.StackLevels.{start_is}

-- the level of stack vertex j, and its number there
pub vertex_of_lem : {n levels : ℕ} {t : Lent} {ps : List ℤ} → AcceptsStack n levels t ps → (j : ℕ) → j < stack_count (sizes_of n (rows n t)) levels
    → let k = level_of (sizes_of n (rows n t)) levels j in
    let x = number_in (sizes_of n (rows n t)) levels j in
    (k ≤ levels) × ((x < (level (rows n t) k).count) × (level_start (sizes_of n (rows n t)) k + x ≡ j))
unfolding level_of number_in stack_count rows
vertex_of_lem {n} {levels} {t} a j h =
    let M : Mesh = rows n t in
    let start : ℕ → ℕ = level_start (sizes_of n M) in
    let k : ℕ = find start j (suc levels) in
    let f = find_step start j (suc levels) (let z = start_none (sizes_of n M) in omega arith) h in
    let c = start_suc (sizes_of n M) k in
    let s = level_count_lem M a.control.sound k in
    (omega arith, (omega arith, omega arith))

module _ {n levels : ℕ} {t : Lent} {ps : List ℤ} (a : AcceptsStack n levels t ps) {before after : ℕ → Bool} (w : TouchedMarked n levels t before after) where
  abbrev M : Mesh
  M = rows n t

  abbrev size : ℕ → ℕ
  size k = (level M k).count

  abbrev whole : ℕ
  whole = stack_count (sizes_of n M) levels

  -- the mark of stack vertex j
  pub mark_of : (j : ℕ) → j < whole → after j ≡ touched (loop M) before (level_of (sizes_of n M) levels j) (number_in (sizes_of n M) levels j)
  mark_of j h = let v = vertex_of_lem a j h in ap after (sym v.1.1) ∙ w.at (level_of (sizes_of n M) levels j) (number_in (sizes_of n M) levels j) v.0 v.1.0

  members_upto_level : (k : ℕ) → k ≤ suc levels → members after (sum size k) ≡ touched_count (loop M) before k
  unfolding members touched_count loop
  members_upto_level zero l = refl
  members_upto_level (suc k) l =
      members_add after (sum size k) (size k)
      ∙ ap₂ (λ (x y : ℕ). x + y) (members_upto_level k (omega arith))
      (members_same (λ x. after (sum size k + x)) (touched (loop M) before k) (size k)
      (λ x h. ap (λ (s : ℕ). after (s + x)) (sym (start_is n levels t ps a k)) ∙ w.at k x (omega arith) h))

  -- all marks, where the spare bits of the last word were clear
  pub marks_counted : ((j : ℕ) → whole ≤ j → j < word_count whole * 32 → before j ≡ false) → members after (word_count whole * 32) ≡ touched_count (loop M) before (suc levels)
  unfolding stack_count
  marks_counted clear =
      members_upto after whole (word_count whole * 32) (omega arith) (λ j h g. w.behind j h ∙ clear j h g)
      ∙ ap (members after) whole_is ∙ members_upto_level (suc levels) (omega arith)
    where
      whole_is : whole ≡ sum size (suc levels)
      whole_is = start_is n levels t ps a (suc levels)
