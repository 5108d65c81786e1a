-- Demand 3: level 4 means level 4.
-- Take tables that an accepted refinement has just filled. Then take any sequence of lists of moves, accepted or refused, each given with that refinement's V and L.
-- After each, every coordinate of every level is what a fresh refinement of the control points as they now are gives.
-- And an accepted list leaves every point as it was that it does not name and that no mask leads from a named one to.
-- Assumes nothing.
use Prim.Native.Nat.{ℕ, zero, suc, ◌+◌, ◌≤◌, ◌<◌}
use mathlib.Core.Path.{◌≡◌, refl, sym, ap, subst, ◌∙◌}
use mathlib.Core.Bool.{false}
use mathlib.Core.List.{List, [], ◌∷◌}
use native.Mathlib.Nat.{zero-add}
use native.Mathlib.Omega.{arith}
use lib.IntN.{ℤ}
use Rattle.mesh.specs.Mesh.{Mesh}
use Rattle.steps.specs.Mask.{touched, refined, refreshed}
use Rattle.steps.specs.Sizes.{sizes_of}
use Rattle.steps.proofs.Refresh.{refined_same, refreshed_untouched}
use Rattle.steps.proofs.RefreshIsRefinement.{refresh_is_refinement}
use Rattle.loop_step.specs.Refine.{level}
use Rattle.loop_step.specs.Loop.{loop}
use Rattle.loop_step.proofs.Levels.{loop_grounded}
use Rattle.rings.specs.Table.{Lent, lent, rows, coordinate_at}
use Rattle.rings.specs.Verdict.{after}
use Rattle.stack_judge.specs.Stack.{level_start}
use Rattle.stack_judge.specs.Accepts.{AcceptsStack}
use Rattle.stack_judge.specs.StackVerdict.{stack_verdict}
use Rattle.stack_judge.proofs.AcceptedStack.{stack_only}
use Rattle.stack_refine.specs.Refinement.{stacked_valences, stacked_rings, stacked_positions, refine_valences, refine_rings, refine_positions}
use Rattle.stack_refine.proofs.StackLevels.{start_is, level_part, coordinate_at_lem}
use Rattle.move_plan.specs.Moves.{named}
use Rattle.move_plan.specs.declared.Move.{Move}
use Rattle.move_lists.specs.Apply.{apply_verdict, moved_control, apply_positions}
use Rattle.move_lists.specs.Fresh.{Fresh, ListCall, after_calls}
use Rattle.move_lists.proofs.AfterList.{held_at, refused_keeps, stack_accepted, control_changes, after_list, control_after}
use Rattle.rings.specs.Refusal.{Verdict}
use Rattle.std.specs.Prelude.{Ok, Err}

-- ---- the steps

module _ (n levels : ℕ) (t : Lent) (ps : List ℤ) where
  wrote : stack_verdict n levels t ps ≡ (Ok tt)
      → (refine_valences n levels t ps ≡ stacked_valences n levels t) × (refine_rings n levels t ps ≡ stacked_rings n levels t)
      × (refine_positions n levels t ps ≡ stacked_positions n levels t ps)
  unfolding refine_valences refine_rings refine_positions after
  wrote e = (rw e, rw e, rw e)

  module _ (a : AcceptsStack n levels t ps) where
    -- the control mesh stays
    control_stays : rows n (lent (stacked_valences n levels t) (stacked_rings n levels t)) ≡ rows n t
    unfolding level rows
    control_stays = level_part n levels t ps a levels (omega arith) 0 (omega arith)

    point_stays : (axis : ℕ) → axis < 3 → (v : ℕ) → v < (loop (rows n t)).size 0 → coordinate_at (stacked_positions n levels t ps) axis v ≡ coordinate_at ps axis v
    unfolding refined loop level
    point_stays axis b v h =
        ap (λ (j : ℕ). coordinate_at (stacked_positions n levels t ps) axis j) (sym (zero-add v)) ∙ coordinate_at_lem n levels t ps a levels (omega arith) axis b 0 v (omega arith) h

    stacked_is_fresh : Fresh n levels (lent (stacked_valences n levels t) (stacked_rings n levels t)) (stacked_positions n levels t ps)
    unfolding loop
    stacked_is_fresh = record {
      fresh = λ axis b k x h g.
          subst
          (λ (N : Mesh). (x : ℕ) → x < (level N k).count → coordinate_at (stacked_positions n levels t ps) axis (level_start (sizes_of n N) k + x) ≡ refined (loop N) (coordinate_at (stacked_positions n levels t ps) axis) k x)
          (sym control_stays)
          (λ x g.
          ap (λ (s : ℕ). coordinate_at (stacked_positions n levels t ps) axis (s + x)) (start_is n levels t ps a k)
          ∙ coordinate_at_lem n levels t ps a levels (omega arith) axis b k x h g
          ∙ refined_same (loop (rows n t)) (loop_grounded (rows n t) a.control.sound) (coordinate_at ps axis) (coordinate_at (stacked_positions n levels t ps) axis)
          (λ v l. sym (point_stays axis b v l)) k x g)
          x
          g;
    }

  -- an accepted refinement leaves fresh tables
  pub refinement_is_fresh : stack_verdict n levels t ps ≡ (Ok tt)
      → Fresh n levels (lent (refine_valences n levels t ps) (refine_rings n levels t ps)) (refine_positions n levels t ps)
  refinement_is_fresh e = let w = wrote e in rw (w.0, w.1, w.2) (stacked_is_fresh (stack_only n levels t ps e))

  module _ (map : List ℕ) (ms : List Move) where
    accepted_keeps_fresh : Fresh n levels t ps → apply_verdict n levels t ps map ms ≡ (Ok tt) → Fresh n levels t (apply_positions n levels t ps map ms)
    unfolding held_at loop
    accepted_keeps_fresh f e =
        let M : Mesh = rows n t in
        let grounded = loop_grounded M (stack_accepted n levels t ps map ms e).control.sound in
        let control : List ℤ = moved_control n levels t ps map ms in
        record {
          fresh = λ axis b k x h g.
              after_list n levels t ps map ms e axis b k x h g
              ∙ refresh_is_refinement (loop M) grounded levels (named ms) (coordinate_at ps axis) (coordinate_at control axis) (held_at n t ps axis)
              (λ j y i l. f.fresh axis b j y i l)
              (λ v l q. (control_changes n levels t ps map ms e).same v axis b q)
              k x h g
              ∙ refined_same (loop M) grounded (coordinate_at control axis) (coordinate_at (apply_positions n levels t ps map ms) axis)
              (λ v l. sym (control_after n levels t ps map ms e axis b v l)) k x g;
        }

    -- a list keeps fresh tables fresh
    pub list_keeps_fresh : Fresh n levels t ps → Fresh n levels t (apply_positions n levels t ps map ms)
    list_keeps_fresh f = go (apply_verdict n levels t ps map ms) refl
      where
        go : (v : Verdict) → apply_verdict n levels t ps map ms ≡ v → Fresh n levels t (apply_positions n levels t ps map ms)
        go (Err r) e = rw (refused_keeps n levels t ps map ms r e) f
        go (Ok u) e = accepted_keeps_fresh f e

-- ---- the theorem

-- lists of moves keep fresh tables fresh
pub calls_keep_fresh : (n levels : ℕ) (t : Lent) (cs : List ListCall) (ps : List ℤ) → Fresh n levels t ps
    → Fresh n levels t (after_calls n levels t cs ps)
calls_keep_fresh n levels t [] ps f = f
calls_keep_fresh n levels t (c ∷ cs) ps f =
    calls_keep_fresh n levels t cs (apply_positions n levels t ps c.map c.moves) (list_keeps_fresh n levels t ps c.map c.moves f)

-- after an accepted refinement and any lists of moves every level is what a fresh refinement gives
pub every_level_is_fresh : (n levels : ℕ) (t : Lent) (ps : List ℤ) → stack_verdict n levels t ps ≡ (Ok tt) → (cs : List ListCall)
    → Fresh n levels (lent (refine_valences n levels t ps) (refine_rings n levels t ps))
    (after_calls n levels (lent (refine_valences n levels t ps) (refine_rings n levels t ps)) cs (refine_positions n levels t ps))
every_level_is_fresh n levels t ps e cs =
    calls_keep_fresh n levels (lent (refine_valences n levels t ps) (refine_rings n levels t ps)) cs (refine_positions n levels t ps) (refinement_is_fresh n levels t ps e)

-- an accepted list leaves every untouched point as it was
pub untouched_stays : (n levels : ℕ) (t : Lent) (ps : List ℤ) (map : List ℕ) (ms : List Move) → apply_verdict n levels t ps map ms ≡ (Ok tt)
    → (axis : ℕ) → axis < 3 → (k x : ℕ) → k ≤ levels → x < (level (rows n t) k).count → touched (loop (rows n t)) (named ms) k x ≡ false
    → coordinate_at (apply_positions n levels t ps map ms) axis (level_start (sizes_of n (rows n t)) k + x) ≡ coordinate_at ps axis (level_start (sizes_of n (rows n t)) k + x)
unfolding touched held_at level_start refreshed
untouched_stays n levels t ps map ms e axis b zero x h g q =
    after_list n levels t ps map ms e axis b 0 x h g
    ∙ (control_changes n levels t ps map ms e).same x axis b q
    ∙ ap (λ (j : ℕ). coordinate_at ps axis j) (sym (zero-add x))
untouched_stays n levels t ps map ms e axis b (suc k) x h g q =
    after_list n levels t ps map ms e axis b (suc k) x h g
    ∙ refreshed_untouched (loop (rows n t)) (named ms) (held_at n t ps axis) (coordinate_at (moved_control n levels t ps map ms) axis) k x q
