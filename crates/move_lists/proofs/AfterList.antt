-- The positions after an accepted list of moves, vertex by vertex: the moved control points, and each level refreshed. Assumes nothing.
use Prim.Native.Nat.{ℕ, zero, suc, ◌+◌, ◌*◌, ◌/◌, ◌%◌, ◌≤◌, ◌<◌}
use mathlib.Core.Path.{◌≡◌, refl, sym, ap, subst, ◌∙◌}
use mathlib.Core.Bool.{false}
use mathlib.Core.List.{List}
use native.Mathlib.Nat.{zero-add}
use native.Mathlib.Omega.{arith}
use lib.Dec.{ltb}
use lib.IntN.{ℤ, pos}
use lib.ListN.{length, get_or}
use borrow.Author.Tests.{ltb-false}
use Rattle.mesh.specs.Search.{sum}
use Rattle.mesh.specs.Mesh.{Mesh}
use Rattle.steps.specs.Mask.{refreshed}
use Rattle.steps.specs.Sizes.{Sizes, sizes_of}
use Rattle.steps.proofs.Refresh.{refreshed_same}
use Rattle.loop_step.specs.Refine.{level}
use Rattle.loop_step.specs.Loop.{loop}
use Rattle.loop_step.proofs.Levels.{loop_grounded}
use Rattle.rings.specs.Table.{Lent, rows, coordinate_at}
use Rattle.rings.specs.Verdict.{after}
use Rattle.rings.specs.declared.Refusal.{Refusal}
use Rattle.rings.proofs.Verdicts.{if_accepted, then_accepted}
use Rattle.stack_judge.specs.Stack.{level_start}
use Rattle.stack_judge.specs.Accepts.{AcceptsStack}
use Rattle.stack_judge.specs.StackVerdict.{stack_verdict}
use Rattle.stack_judge.proofs.Sizes.{start_suc}
use Rattle.stack_judge.proofs.AcceptedStack.{stack_only}
use Rattle.move_map.specs.Map.{word_count}
use Rattle.stack_refine.proofs.StackLevels.{start_is, levels_room}
use Rattle.stack_strange.specs.Expected.{whole}
use Rattle.move_refresh.specs.Stack.{refreshed_at, refreshed_positions}
use Rattle.move_refresh.proofs.RefreshedPoints.{positions_long, position_at, position_behind}
use Rattle.move_plan.specs.Moves.{Pending, pending, stopped, named, pending_verdict, pending_points}
use Rattle.move_plan.specs.declared.Move.{Move}
use Rattle.move_lists.specs.Apply.{before_moves, moved, apply_verdict, moved_control, apply_positions}
use Rattle.move_lists.proofs.ControlPoints.{ChangedAt, run_changes, named_below}
use Rattle.std.specs.Prelude.{Ok, Err}

-- level 0 comes before every other level
pub control_first : (s : Sizes) (k : ℕ) → s.vertices ≤ level_start s (suc k)
control_first s zero = omega (arith, start_suc s 0)
control_first s (suc k) = omega (arith, start_suc s (suc k), control_first s k)

-- what the stack holds: one coordinate of vertex x of level k
unfoldable pub held_at : ℕ → Lent → List ℤ → ℕ → ℕ → ℕ → ℤ
held_at n t ps axis k x = coordinate_at ps axis (level_start (sizes_of n (rows n t)) k + x)

module _ (n levels : ℕ) (t : Lent) (ps : List ℤ) (map : List ℕ) (ms : List Move) where
  -- a refused list leaves the positions as they were
  pub refused_keeps : (r : Refusal) → apply_verdict n levels t ps map ms ≡ Err r → apply_positions n levels t ps map ms ≡ ps
  unfolding apply_positions after
  refused_keeps r e = rw e

  module _ (accepted : apply_verdict n levels t ps map ms ≡ (Ok tt)) where
    judged : (before_moves n levels t ps (length map) (length ms) ≡ (Ok tt)) × (pending_verdict (moved n levels t ps map ms) ≡ (Ok tt))
    unfolding apply_verdict
    judged = then_accepted (before_moves n levels t ps (length map) (length ms)) (pending_verdict (moved n levels t ps map ms)) accepted

    -- the stack was accepted
    pub stack_accepted : AcceptsStack n levels t ps
    unfolding before_moves
    stack_accepted = stack_only n levels t ps (then_accepted (stack_verdict n levels t ps) _ judged.0).0

    -- the map has room for it
    pub map_room : word_count (whole n levels t ps) ≤ length map
    unfolding before_moves
    map_room =
        let b = then_accepted (stack_verdict n levels t ps) _ judged.0 in
        ltb-false (length map) (word_count (whole n levels t ps)) (if_accepted (ltb (length map) (word_count (whole n levels t ps))) _ _ b.1).0

    abbrev M : Mesh
    M = rows n t

    abbrev size : ℕ → ℕ
    size k = (level M k).count

    abbrev control : List ℤ
    control = moved_control n levels t ps map ms

    -- the moves change only what they name
    pub control_changes : ChangedAt (named ms) ps control
    unfolding moved_control moved
    control_changes = go (moved n levels t ps map ms) refl judged.1
      where
        go : (s : Pending) → moved n levels t ps map ms ≡ s → pending_verdict s ≡ (Ok tt) → ChangedAt (named ms) ps (pending_points s ps)
        go (pending qs) e h = run_changes n ms 0 ps qs stack_accepted.control.points e
        go (stopped r) e h = absurd (let z : ◌≡◌ {A = ℕ} 0 1 = cc in omega arith)

    -- one coordinate of a vertex of a level, refreshed
    abbrev pub point : ℕ → ℕ → ℕ → ℤ
    point axis k x = refreshed (loop M) (named ms) (held_at n t ps axis) (coordinate_at control axis) k x

    -- only control vertices are named
    pub names_below : (j : ℕ) → n ≤ j → named ms j ≡ false
    unfolding moved
    names_below j l = go (moved n levels t ps map ms) refl judged.1
      where
        go : (s : Pending) → moved n levels t ps map ms ≡ s → pending_verdict s ≡ (Ok tt) → named ms j ≡ false
        go (pending qs) e h = named_below n ms 0 ps qs e j l
        go (stopped r) e h = absurd (let z : ◌≡◌ {A = ℕ} 0 1 = cc in omega arith)

    -- above level 0 the moves leave what the stack holds
    kept_above : (axis : ℕ) → axis < 3 → (j : ℕ) → n ≤ j → coordinate_at control axis j ≡ coordinate_at ps axis j
    kept_above axis b j l = control_changes.same j axis b (names_below j l)

    point_is : (axis : ℕ) → axis < 3 → (k x : ℕ) → k ≤ levels → x < size k → refreshed_at n t (named ms) control axis k x ≡ point axis k x
    unfolding refreshed_at held_at loop level rows
    point_is axis b k x h g =
        refreshed_same (loop M) (loop_grounded M stack_accepted.control.sound) (named ms) (named ms) (λ v l. refl) (coordinate_at control axis) (coordinate_at control axis) (λ v l. refl)
        (held_at n t control axis) (held_at n t ps axis) k
        (λ j y i l. kept_above axis b (level_start (sizes_of n M) (suc j) + y) (let c = control_first (sizes_of n M) j in omega arith)) x g

    room : sum size (suc levels) * 3 ≤ length control
    room =
        let a = stack_accepted in
        let r = levels_room n levels t ps a levels (omega arith) in
        let p = a.points in
        let l = control_changes.long in
        omega arith

    positions_are : apply_positions n levels t ps map ms ≡ refreshed_positions n t (named ms) control levels
    unfolding apply_positions after
    positions_are = rw accepted

    at_sum : (axis : ℕ) → axis < 3 → (k x : ℕ) → k ≤ levels → x < size k → coordinate_at (apply_positions n levels t ps map ms) axis (sum size k + x) ≡ point axis k x
    at_sum axis b k x h g =
        ap (λ (table : List ℤ). coordinate_at table axis (sum size k + x)) positions_are ∙ position_at n t (named ms) control levels room axis b k x h g ∙ point_is axis b k x h g

    -- vertex x of level k after the list
    pub after_list : (axis : ℕ) → axis < 3 → (k x : ℕ) → k ≤ levels → x < size k
        → coordinate_at (apply_positions n levels t ps map ms) axis (level_start (sizes_of n M) k + x) ≡ point axis k x
    after_list axis b k x h g =
        ap (λ (s : ℕ). coordinate_at (apply_positions n levels t ps map ms) axis (s + x)) (start_is n levels t ps stack_accepted k) ∙ at_sum axis b k x h g

    -- level 0 holds the moved control points
    pub control_after : (axis : ℕ) → axis < 3 → (v : ℕ) → v < size 0 → coordinate_at (apply_positions n levels t ps map ms) axis v ≡ coordinate_at control axis v
    unfolding refreshed
    control_after axis b v g =
        ap (λ (j : ℕ). coordinate_at (apply_positions n levels t ps map ms) axis j) (sym (zero-add v)) ∙ at_sum axis b 0 v (omega arith) g

    control_in : n ≤ sum size (suc levels)
    control_in = omega (arith, start_is n levels t ps stack_accepted (suc levels), control_first (sizes_of n M) levels)

    kept_behind : (p : ℕ) → sum size (suc levels) * 3 ≤ p → get_or control p (pos 0) ≡ get_or ps p (pos 0)
    unfolding coordinate_at
    kept_behind p h =
        let c = control_in in
        let e : p / 3 * 3 + p % 3 ≡ p = omega arith in
        subst (λ (j : ℕ). get_or control j (pos 0) ≡ get_or ps j (pos 0)) e (kept_above (p % 3) (omega arith) (p / 3) (omega arith))

    -- what lies behind the stack stays
    pub behind_stays : (p : ℕ) → sum size (suc levels) * 3 ≤ p → get_or (apply_positions n levels t ps map ms) p (pos 0) ≡ get_or ps p (pos 0)
    behind_stays p h = ap (λ (table : List ℤ). get_or table p (pos 0)) positions_are ∙ position_behind n t (named ms) control levels room p h ∙ kept_behind p h

    -- the table keeps its length
    pub after_length : length (apply_positions n levels t ps map ms) ≡ length ps
    after_length = ap length positions_are ∙ positions_long n t (named ms) control levels room ∙ control_changes.long
