-- Demand 3 as the calls see it. In tables that an accepted refinement has filled, after any lists of moves with its V and L:
--     refining_again_is_accepted        a refinement with the same V and L is accepted;
--     refining_again_changes_nothing    it leaves each of the three tables as it stands: what it writes stands there already;
--     next_list_is_judged_by_itself     the next list comes to its moves: nothing can refuse it
--                                       but the map's room (10), its length (12) and its moves (3, 13, 14).
-- Assumes nothing.
use Rattle.std.proofs.Common.{Result, Ok, Err}
use Prim.Native.Nat.{ℕ, suc, ◌+◌, ◌-◌, ◌*◌, ◌/◌, ◌%◌, ◌≤◌, ◌<◌}
use mathlib.Core.Path.{◌≡◌, refl, sym, ap, subst, ◌∙◌}
use mathlib.Core.List.{List, [], ◌∷◌}
use mathlib.Core.Logic.{⊎_elim}
use native.Mathlib.Omega.{arith}
use lib.IntN.{ℤ, pos}
use lib.ListN.{length, get_or, drop, length-drop}
use lib.Seq.{get_or-drop, ext_get_or}
use Rattle.mesh.specs.Limits.{most_moves}
use Rattle.mesh.specs.Mesh.{Mesh}
use Rattle.mesh.proofs.Lists.{eq_split, le_split, lt_split}
use Rattle.steps.specs.Mask.{refined}
use Rattle.steps.specs.Sizes.{sizes_of}
use Rattle.loop_step.specs.Refine.{level}
use Rattle.loop_step.proofs.Levels.{level_sound}
use Rattle.units.specs.Coordinate.{InRange}
use Rattle.units.specs.declared.Point.{Point}
use Rattle.millimetres.specs.Move.{moved_to}
use Rattle.millimetres.specs.Millimetres.{mm_of}
use Rattle.millimetres.specs.declared.Mm.{Mm}
use Rattle.millimetres.specs.declared.Change.{Change}
use Rattle.millimetres.specs.declared.Unmoved.{Unmoved}
use Rattle.millimetres.specs.declared.Unmoved.TheVariants.{NotFinite, OutOfReach}
use Rattle.rings.specs.Table.{Lent, lent, valence_at, rows, ring_of, coordinate_at, point_at}
use Rattle.rings.proofs.Verdicts.{then_accepted}
use Rattle.rings.proofs.Rows.{rows_ring, row_length, room_row}
use Rattle.stack_judge.specs.Stack.{level_count, level_start, stack_count, level_of, number_in}
use Rattle.stack_judge.specs.Accepts.{AcceptsStack}
use Rattle.stack_judge.specs.StackVerdict.{stack_verdict}
use Rattle.stack_judge.proofs.AcceptedStack.{stack_only, stack_all}
use Rattle.stack_judge.proofs.Sizes.{level_count_lem, start_none, start_suc}
use Rattle.stack_judge.proofs.StackVertices.{starts_climb, stack_vertex}
use Rattle.move_map.specs.Map.{word_count}
use Rattle.stack_refine.specs.Refinement.{stacked_valences, stacked_rings, refine_valences, refine_rings, refine_positions}
use Rattle.stack_refine.proofs.RefineAnswers.{accepted_valences, accepted_rings}
use Rattle.stack_refine.proofs.StackIsRefined.{valence_is_refined, ring_is_refined, point_is_refined, level_is_refined}
use Rattle.stack_refine.proofs.StackKeeps.{lengths_stay, tails_stay}
use Rattle.stack_refine.proofs.StackStaysInHull.{stack_stays_in_range}
use Rattle.stack_refine.proofs.StackLevels.{point_part, valences_again, rings_again}
use Rattle.stack_refine.proofs.OnlyControlIsRead.{SameControl, same_mesh, same_verdict}
use Rattle.stack_strange.specs.Expected.{whole}
use Rattle.stack_as_refined.proofs.StackAsRefined.{AsRefined, nothing_is_strange}
use Rattle.move_refresh.proofs.Called.{accepted_moved}
use Rattle.move_plan.specs.Moves.{Pending, pending, stopped, placed, settle, step, run, pending_verdict, pending_points}
use Rattle.move_plan.specs.Plan.{Near}
use Rattle.move_plan.specs.declared.Move.{Move}
use Rattle.move_plan.proofs.FairPlans.{moved_near}
use Rattle.move_plan.proofs.Laid.{point_near, near_at, point_same, point_other}
use Rattle.move_lists.specs.Apply.{before_moves, moved, moved_control, apply_verdict, apply_positions}
use Rattle.move_lists.specs.Fresh.{ListCall, after_calls}
use Rattle.move_lists.proofs.ControlPoints.{step_changes, run_stopped}
use Rattle.move_lists.proofs.AfterList.{refused_keeps, stack_accepted, control_after, after_length}
use Rattle.move_lists.proofs.Judging.{before_accepted}
use Rattle.move_lists.proofs.EveryLevelIsFresh.{every_level_is_fresh}
use Rattle.rings.specs.Refusal.{Verdict}
use Rattle.std.specs.Prelude.{Ok, Err}

-- ---- the control points stay in range

-- the points of n vertices are in range
abbrev NearAll : ℕ → List ℤ → Type 0
NearAll n ps = (v : ℕ) → v < n → Near (point_at ps v)

placed_near : (n : ℕ) (ps : List ℤ) (w : ℕ) (p : Point) → w * 3 + 3 ≤ length ps → Near p → NearAll n ps → NearAll n (placed ps w p)
placed_near n ps w p room q all v h =
    ⊎_elim
    (λ e. subst Near (sym (point_same ps w p room) ∙ ap (point_at (placed ps w p)) e.1) q)
    (λ e. subst Near (sym (point_other ps w p room v e.1)) (all v h))
    (eq_split w v)

settled_near : (n : ℕ) (ps : List ℤ) (w i : ℕ) (x : Mm) (c : Change) → w * 3 + 3 ≤ length ps → NearAll n ps → (m : Result Point Unmoved) → moved_to x c ≡ m
    → (qs : List ℤ) → settle ps w i m ≡ pending qs → NearAll n qs
settled_near n ps w i x c room all (Ok p) e qs h =
    let q : placed ps w p ≡ qs = cc in
    subst (NearAll n) q (placed_near n ps w p room (moved_near x c p e) all)
settled_near n ps w i x c room all (Err NotFinite) e qs h = absurd (let z : ◌≡◌ {A = ℕ} 0 1 = cc in omega arith)
settled_near n ps w i x c room all (Err OutOfReach) e qs h = absurd (let z : ◌≡◌ {A = ℕ} 0 1 = cc in omega arith)

step_near : (n : ℕ) (ps : List ℤ) (m : Move) (i : ℕ) (qs : List ℤ) → n * 3 ≤ length ps → NearAll n ps → step n (pending ps) m i ≡ pending qs → NearAll n qs
unfolding step
step_near n ps m i qs room all e =
    ⊎_elim
    (λ l. absurd (let h = rw l.0 at e in let z : ◌≡◌ {A = ℕ} 0 1 = cc in omega arith))
    (λ l. settled_near n ps m.vertex i (mm_of (point_at ps m.vertex)) m.change (let q = l.1 in omega arith) all
    (moved_to (mm_of (point_at ps m.vertex)) m.change) refl qs (rw l.0 at e))
    (le_split n m.vertex)

run_near : (n : ℕ) (ms : List Move) (i : ℕ) (ps qs : List ℤ) → n * 3 ≤ length ps → NearAll n ps → run n ms i (pending ps) ≡ pending qs → NearAll n qs
run_near n [] i ps qs room all e = let q : ps ≡ qs = cc in subst (NearAll n) q all
run_near n (m ∷ ms) i ps qs room all e = go (step n (pending ps) m i) refl e (λ ts l a h. run_near n ms (suc i) ts qs l a h)
  where
    go : (s : Pending) → step n (pending ps) m i ≡ s → run n ms (suc i) s ≡ pending qs
        → ((ts : List ℤ) → n * 3 ≤ length ts → NearAll n ts → run n ms (suc i) (pending ts) ≡ pending qs → NearAll n qs) → NearAll n qs
    go (pending ts) h e rest = let l = (step_changes n ps m i ts room h).long in rest ts (omega arith) (step_near n ps m i ts room all h) e
    go (stopped r) h e rest = absurd (let k = run_stopped n ms (suc i) r in let z : ◌≡◌ {A = ℕ} 0 1 = cc in omega arith)

module _ (n levels : ℕ) (t : Lent) (ps : List ℤ) (map : List ℕ) (ms : List Move) where
  control_near : AcceptsStack n levels t ps → NearAll n ps
  control_near a v h = point_near ps v (a.control.near v h)

  module _ (e : apply_verdict n levels t ps map ms ≡ (Ok tt)) where
    a : AcceptsStack n levels t ps
    a = stack_accepted n levels t ps map ms e

    run_accepted : pending_verdict (moved n levels t ps map ms) ≡ (Ok tt)
    unfolding apply_verdict
    run_accepted = (then_accepted (before_moves n levels t ps (length map) (length ms)) (pending_verdict (moved n levels t ps map ms)) e).1

    moved_in_range : NearAll n (moved_control n levels t ps map ms)
    unfolding moved_control moved
    moved_in_range = go (moved n levels t ps map ms) refl run_accepted
      where
        go : (s : Pending) → moved n levels t ps map ms ≡ s → pending_verdict s ≡ (Ok tt) → NearAll n (pending_points s ps)
        go (pending qs) q h = run_near n ms 0 ps qs a.control.points (control_near a) q
        go (stopped r) q h = absurd (let z : ◌≡◌ {A = ℕ} 0 1 = cc in omega arith)

    accepted_keeps : stack_verdict n levels t (apply_positions n levels t ps map ms) ≡ (Ok tt)
    unfolding level rows
    accepted_keeps =
        stack_all n levels t (apply_positions n levels t ps map ms)
        (accepted_moved a (apply_positions n levels t ps map ms) (after_length n levels t ps map ms e)
        (λ v h axis b.
        subst (λ (z : ℤ). InRange z) (sym (control_after n levels t ps map ms e axis b v h))
        (near_at (moved_control n levels t ps map ms) v axis b (moved_in_range v h))))

  list_keeps_accepted : stack_verdict n levels t ps ≡ (Ok tt) → stack_verdict n levels t (apply_positions n levels t ps map ms) ≡ (Ok tt)
  list_keeps_accepted h = go (apply_verdict n levels t ps map ms) refl
    where
      go : (v : Verdict) → apply_verdict n levels t ps map ms ≡ v → stack_verdict n levels t (apply_positions n levels t ps map ms) ≡ (Ok tt)
      go (Err r) e = rw (refused_keeps n levels t ps map ms r e) h
      go (Ok u) e = accepted_keeps e

calls_keep_accepted : (n levels : ℕ) (t : Lent) (cs : List ListCall) (ps : List ℤ) → stack_verdict n levels t ps ≡ (Ok tt)
    → stack_verdict n levels t (after_calls n levels t cs ps) ≡ (Ok tt)
calls_keep_accepted n levels t [] ps h = h
calls_keep_accepted n levels t (c ∷ cs) ps h =
    calls_keep_accepted n levels t cs (apply_positions n levels t ps c.map c.moves) (list_keeps_accepted n levels t ps c.map c.moves h)

-- ---- after a refinement

module _ (n levels : ℕ) (t : Lent) (ps : List ℤ) (e : stack_verdict n levels t ps ≡ (Ok tt)) where
  abbrev M : Mesh
  M = rows n t

  abbrev t' : Lent
  t' = lent (refine_valences n levels t ps) (refine_rings n levels t ps)

  abbrev ps' : List ℤ
  ps' = refine_positions n levels t ps

  start0 : (v : ℕ) → level_start (sizes_of n M) 0 + v ≡ v
  start0 v = let z = start_none (sizes_of n M) in omega arith

  control_same : SameControl n t ps t' ps'
  unfolding level rows refined
  control_same =
      let l = lengths_stay n levels t ps in
      record {
        valences = sym l.0;
        rings = sym l.1.0;
        positions = sym l.1.1;
        valence = λ v h. sym (ap (λ (j : ℕ). valence_at t' j) (sym (start0 v)) ∙ valence_is_refined n levels t ps (sym e) 0 v (omega arith) h ∙ valence0 v h);
        ring = λ v h. sym (ap (ring_of t') (sym (start0 v)) ∙ ring_is_refined n levels t ps (sym e) 0 v (omega arith) h ∙ rows_ring n t v h);
        point = λ axis v b h. sym (ap (coordinate_at ps' axis) (sym (start0 v)) ∙ point_is_refined n levels t ps (sym e) 0 v (omega arith) h axis b);
      }
    where
      valence0 : (v : ℕ) → v < n → length ((rows n t).ring v) ≡ valence_at t v
      valence0 v h =
          let b = (stack_only n levels t ps e).control in
          ap length (rows_ring n t v h) ∙ row_length t v (room_row b.room h (b.most v h))

  again : stack_verdict n levels t' ps' ≡ (Ok tt)
  again = sym (same_verdict n levels t ps t' ps' control_same) ∙ e

  -- the control mesh that the tables hold, and where its levels begin
  abbrev N : Mesh
  N = rows n t'

  abbrev begin : ℕ → ℕ
  begin k = level_start (sizes_of n N) k

  control_stays : N ≡ M
  control_stays = sym (same_mesh n levels t ps t' ps' control_same)

  module _ (cs : List ListCall) where
    -- the positions after the lists
    abbrev qs : List ℤ
    qs = after_calls n levels t' cs ps'

    pub refining_again_is_accepted : stack_verdict n levels t' qs ≡ (Ok tt)
    refining_again_is_accepted = calls_keep_accepted n levels t' cs ps' again

    -- ---- the points

    same_point : (axis : ℕ) → axis < 3 → (k x : ℕ) → k ≤ levels → x < (level N k).count
        → coordinate_at (refine_positions n levels t' qs) axis (begin k + x) ≡ coordinate_at qs axis (begin k + x)
    same_point axis b k x l h =
        point_is_refined n levels t' qs (sym refining_again_is_accepted) k x l h axis b
        ∙ sym ((every_level_is_fresh n levels t ps e cs).fresh axis b k x l h)

    stack : AcceptsStack n levels t' qs
    stack = stack_only n levels t' qs refining_again_is_accepted

    count_is : (k : ℕ) → (level N k).count ≡ level_count (sizes_of n N) k
    unfolding rows
    count_is k = level_count_lem N stack.control.sound k

    -- a number of the stack is one coordinate of one vertex of one level
    same_number : (p : ℕ) → p < stack_count (sizes_of n N) levels * 3 → get_or (refine_positions n levels t' qs) p (pos 0) ≡ get_or qs p (pos 0)
    unfolding coordinate_at
    same_number p h =
        let v = stack_vertex (sizes_of n N) levels (p / 3) (omega arith) in
        let k : ℕ = level_of (sizes_of n N) levels (p / 3) in
        let x : ℕ = number_in (sizes_of n N) levels (p / 3) in
        let here : (begin k + x) * 3 + p % 3 ≡ p = omega (arith, v.1.0) in
        subst (λ (q : ℕ). get_or (refine_positions n levels t' qs) q (pos 0) ≡ get_or qs q (pos 0)) here
        (same_point (p % 3) (omega arith) k x v.0 (rw (count_is k) v.1.1))

    -- what lies behind the stack stays
    same_behind : (p : ℕ) → stack_count (sizes_of n N) levels * 3 ≤ p → get_or (refine_positions n levels t' qs) p (pos 0) ≡ get_or qs p (pos 0)
    same_behind p h =
        let w : ℕ = stack_count (sizes_of n N) levels * 3 in
        let r : w + (p - w) ≡ p = omega arith in
        subst (λ (q : ℕ). get_or (refine_positions n levels t' qs) q (pos 0) ≡ get_or qs q (pos 0)) r
        (sym (get_or-drop w (refine_positions n levels t' qs) (p - w) (pos 0))
        ∙ ap (λ (table : List ℤ). get_or table (p - w) (pos 0)) (tails_stay n levels t' qs).1.1
        ∙ get_or-drop w qs (p - w) (pos 0))

    same_positions : refine_positions n levels t' qs ≡ qs
    same_positions =
        ext_get_or (pos 0) (refine_positions n levels t' qs) qs (lengths_stay n levels t' qs).1.1
        (λ p h. ⊎_elim (λ q. same_number p q.1) (λ q. same_behind p q.1) (lt_split p (stack_count (sizes_of n N) levels * 3)))

    -- ---- the valences and the rings

    first_accepted : AcceptsStack n levels t ps
    first_accepted = stack_only n levels t ps e

    -- after an accepted refinement the valences and the rings are the stacked ones
    stacked_valences_lem : stacked_valences n levels t ≡ t'.valences
    stacked_valences_lem = accepted_valences n levels t ps (sym e)

    stacked_rings_lem : stacked_rings n levels t ≡ t'.rings
    stacked_rings_lem = accepted_rings n levels t ps (sym e)

    same_valences : refine_valences n levels t' qs ≡ t'.valences
    same_valences =
        sym (accepted_valences n levels t' qs (sym refining_again_is_accepted))
        ∙ subst (λ (table : List ℕ). rows n (lent table t'.rings) ≡ M → stacked_valences n levels (lent table t'.rings) ≡ table) stacked_valences_lem
        (valences_again n levels t ps first_accepted levels (omega arith) t'.rings) control_stays

    same_rings : refine_rings n levels t' qs ≡ t'.rings
    same_rings =
        sym (accepted_rings n levels t' qs (sym refining_again_is_accepted))
        ∙ subst (λ (table : List ℕ). rows n (lent t'.valences table) ≡ M → stacked_rings n levels (lent t'.valences table) ≡ table) stacked_rings_lem
        (rings_again n levels t ps first_accepted levels (omega arith) t'.valences) control_stays

    pub refining_again_changes_nothing : (refine_valences n levels t' qs ≡ t'.valences)
        × ((refine_rings n levels t' qs ≡ t'.rings) × (refine_positions n levels t' qs ≡ qs))
    refining_again_changes_nothing = (same_valences, (same_rings, same_positions))

    -- ---- the next list

    level_there : (k : ℕ) → k ≤ levels → rows (level N k).count (lent (drop (begin k) t'.valences) (drop (begin k * 32) t'.rings)) ≡ level N k
    level_there k l = rw control_stays (level_is_refined n levels t ps (sym e) k l)

    few : (k x : ℕ) → k ≤ levels → x < (level N k).count → valence_at t' (begin k + x) ≤ 32
    few k x l h =
        let v : valence_at t' (begin k + x) ≡ length ((level N k).ring x) =
        rw control_stays (valence_is_refined n levels t ps (sym e) k x l (rw control_stays at h)) in
        let s = ((level_sound N stack.control.sound k).proper x h).short in
        omega arith

    as_refined : (k : ℕ) → k ≤ levels → AsRefined n t' qs k
    unfolding stack_count
    as_refined k l = record {
      mesh = rw (← count_is k) (level_there k l);
      most = λ x h. subst (λ (m : ℕ). m ≤ 32) (sym (get_or-drop (begin k) t'.valences x 0)) (few k x l (rw (count_is k) h));
      near = record {
        points =
            let p = stack.points in
            let s = start_suc (sizes_of n N) k in
            let c = starts_climb (sizes_of n N) (suc k) (suc levels) (omega arith) in
            rw length-drop (omega arith);
        near = λ x h axis b.
            subst (λ (z : ℤ). InRange z)
            (same_point axis b k x l (rw (count_is k) h) ∙ sym (point_part qs (begin k) axis x))
            (stack_stays_in_range n levels t' qs (sym refining_again_is_accepted) axis b k x l (rw (count_is k) h));
      };
    }

    -- a list of at most 64 moves, with a map that has room, comes to its moves
    pub next_list_is_judged_by_itself : (words moves : ℕ) → word_count (whole n levels t' qs) ≤ words → moves ≤ most_moves
        → before_moves n levels t' qs words moves ≡ (Ok tt)
    next_list_is_judged_by_itself words moves room few =
        sym (before_accepted n levels t' qs words moves (sym refining_again_is_accepted) (whole n levels t' qs) refl room (whole n levels t' qs)
        (nothing_is_strange n levels t' qs stack as_refined) (omega arith) few)
