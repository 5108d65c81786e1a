-- The outcomes of settling a plan, the plan before the first move, and that settling the plan of a list is the call with the list. Assumes nothing.
use Prim.Native.Nat.{ℕ}
use mathlib.Core.Path.{◌≡◌, refl, sym, ap, ap₂, subst, ◌∙◌}
use mathlib.Core.Bool.{Bool, true, false}
use mathlib.Core.List.{List}
use native.Mathlib.Omega.{arith}
use lib.IntN.{ℤ}
use lib.ListN.{length}
use Rattle.rings.specs.Table.{Lent}
use Rattle.rings.specs.Verdict.{refuse_if, and_then, after, with_amount}
use Rattle.rings.specs.declared.Refusal.{Refusal}
use Rattle.rings.specs.declared.Refusal.TheVariants.{LevelCount}
use Rattle.stack_judge.specs.Stack.{bad_levels}
use Rattle.move_refresh.specs.Stack.{refreshed_positions}
use Rattle.move_plan.specs.Moves.{named, pending_verdict}
use Rattle.move_lists.specs.Apply.{before_moves, touched_total, touched_map, moved, moved_control, apply_verdict, apply_answer, apply_positions, apply_map}
use Rattle.move_plan.specs.Plan.{Fair, opened_plan, planned, laid, named_in, walk_of}
use Rattle.move_lists.specs.Settle.{first_plan, settle_verdict, settle_answer, settle_positions, settle_map}
use Rattle.move_plan.specs.declared.Plan.{Plan}
use Rattle.move_plan.specs.declared.Move.{Move}
use Rattle.move_plan.proofs.FairPlans.{walk_fair, walk_count}
use Rattle.move_lists.proofs.Judging.{judged}
use Rattle.move_plan.proofs.PlansMeanMoves.{Means, plan_means}
use Rattle.rings.specs.Refusal.{Amount, Verdict}
use Rattle.std.specs.Prelude.{Ok, Err}

module _ (plan : Plan) (moves levels : ℕ) (t : Lent) (ps : List ℤ) (map : List ℕ) where
  -- refused before the first move
  pub settle_stopped : (r : Refusal) → Err r ≡ before_moves plan.count levels t ps (length map) moves
      → (Err r ≡ settle_answer plan moves levels t ps map) × (ps ≡ settle_positions plan moves levels t ps map) × (map ≡ settle_map plan moves levels t ps map)
  unfolding settle_answer settle_positions settle_map settle_verdict and_then after with_amount
  settle_stopped r e = (rw (← e), rw (← e), rw (← e))

  module _ (e : (Ok tt) ≡ before_moves plan.count levels t ps (length map) moves) where
    -- refused by a move
    pub settle_unplanned : (r : Refusal) → plan.verdict ≡ Err r
        → (Err r ≡ settle_answer plan moves levels t ps map) × (ps ≡ settle_positions plan moves levels t ps map) × (map ≡ settle_map plan moves levels t ps map)
    unfolding settle_answer settle_positions settle_map settle_verdict and_then after with_amount
    settle_unplanned r h = (rw (← e, h), rw (← e, h), rw (← e, h))

    -- carried out
    pub settle_done : plan.verdict ≡ (Ok tt) → (count : ℕ) (ps' : List ℤ) (map' : List ℕ)
        → count ≡ touched_total plan.count levels t ps (named_in (planned plan))
        → ps' ≡ refreshed_positions plan.count t (named_in (planned plan)) (laid ps (planned plan)) levels
        → map' ≡ touched_map plan.count levels t ps (named_in (planned plan)) map
        → (Ok count ≡ settle_answer plan moves levels t ps map) × (ps' ≡ settle_positions plan moves levels t ps map) × (map' ≡ settle_map plan moves levels t ps map)
    unfolding settle_answer settle_positions settle_map settle_verdict and_then after with_amount planned
    settle_done h count ps' map' a b c = (rw (← e, h) (ap Ok a), rw (← e, h) b, rw (← e, h) c)

-- ---- the plan before the first move

module _ (n levels : ℕ) where
  pub first_refused : true ≡ bad_levels levels → (s : Plan) → s ≡ opened_plan n (Err LevelCount) → s ≡ first_plan n levels
  unfolding first_plan refuse_if
  first_refused e s h = rw (← e) h

  pub first_accepted : false ≡ bad_levels levels → (s : Plan) → s ≡ opened_plan n (Ok tt) → s ≡ first_plan n levels
  unfolding first_plan refuse_if
  first_accepted e s h = rw (← e) h

-- ---- the plan of a list

module _ (n levels : ℕ) (t : Lent) (ps : List ℤ) (map : List ℕ) (ms : List Move) where
  abbrev plan : Plan
  plan = walk_of ps ms (first_plan n levels)

  plan_count : plan.count ≡ n
  unfolding first_plan
  plan_count = walk_count ps ms n _

  -- it can be carried out
  pub list_fair : Fair plan
  unfolding first_plan
  list_fair = walk_fair ps ms n _

  -- all three of a call's outcome, by its verdict, names and control points
  record Outcome (answer : Amount) (positions : List ℤ) (marks : List ℕ) (verdict : Verdict) (names : ℕ → Bool) (control : List ℤ) : Type 0 where
    answers : answer ≡ with_amount verdict (touched_total n levels t ps names)
    points : positions ≡ after verdict (refreshed_positions n t names control levels) ps
    marked : marks ≡ after verdict (touched_map n levels t ps names map) map

  by_plan : Outcome (settle_answer plan (length ms) levels t ps map) (settle_positions plan (length ms) levels t ps map) (settle_map plan (length ms) levels t ps map)
      (and_then (before_moves n levels t ps (length map) (length ms)) plan.verdict) (named_in (planned plan)) (laid ps (planned plan))
  unfolding settle_answer settle_positions settle_map settle_verdict
  by_plan = let c = plan_count in record { answers = rw c; points = rw c; marked = rw c }

  by_list : Outcome (apply_answer n levels t ps map ms) (apply_positions n levels t ps map ms) (apply_map n levels t ps map ms)
      (and_then (before_moves n levels t ps (length map) (length ms)) (pending_verdict (moved n levels t ps map ms))) (named ms) (moved_control n levels t ps map ms)
  unfolding apply_answer apply_positions apply_map apply_verdict
  by_list = record { answers = refl; points = refl; marked = refl }

  -- two outcomes with one verdict, and, where it is accepted, with the same names and control points
  same_outcome : {A A' : Amount} {P P' : List ℤ} {K K' : List ℕ} {s s' : ℕ → Bool} {c c' : List ℤ} (v : Verdict) → Outcome A P K v s c → Outcome A' P' K' v s' c'
      → (v ≡ (Ok tt) → (s ≡ s') × (c ≡ c')) → (A ≡ A') × (P ≡ P') × (K ≡ K')
  unfolding with_amount after
  same_outcome (Ok u) o o' f =
      let e = f refl in (
        o.answers ∙ ap (λ (s : ℕ → Bool). Ok (touched_total n levels t ps s)) e.0 ∙ sym o'.answers,
        o.points ∙ ap₂ (λ (s : ℕ → Bool) (c : List ℤ). refreshed_positions n t s c levels) e.0 e.1 ∙ sym o'.points,
        o.marked ∙ ap (λ (s : ℕ → Bool). touched_map n levels t ps s map) e.0 ∙ sym o'.marked,
      )
  same_outcome (Err r) o o' f = (o.answers ∙ sym o'.answers, o.points ∙ sym o'.points, o.marked ∙ sym o'.marked)

  judged_list : before_moves n levels t ps (length map) (length ms) ≡ (Ok tt) → Means n ps ms plan
  judged_list e =
      let j = judged n levels t ps (length map) (length ms) e in
      subst (λ (s : Plan). Means n ps ms (walk_of ps ms s)) (first_accepted n levels (sym j.good) (opened_plan n (Ok tt)) refl)
      (plan_means n ps ms j.stack.control.points j.stack.control.near j.few)

  -- settling the plan of a list is the call with the list: answer, positions and map
  pub settle_is_apply : (settle_answer plan (length ms) levels t ps map ≡ apply_answer n levels t ps map ms)
      × (settle_positions plan (length ms) levels t ps map ≡ apply_positions n levels t ps map ms)
      × (settle_map plan (length ms) levels t ps map ≡ apply_map n levels t ps map ms)
  unfolding and_then moved moved_control
  settle_is_apply = go (before_moves n levels t ps (length map) (length ms)) refl
    where
      go : (w : Verdict) → before_moves n levels t ps (length map) (length ms) ≡ w
          → (settle_answer plan (length ms) levels t ps map ≡ apply_answer n levels t ps map ms)
          × (settle_positions plan (length ms) levels t ps map ≡ apply_positions n levels t ps map ms)
          × (settle_map plan (length ms) levels t ps map ≡ apply_map n levels t ps map ms)
      go (Ok u) e =
          let m = judged_list e in
          let list : Outcome (apply_answer n levels t ps map ms) (apply_positions n levels t ps map ms) (apply_map n levels t ps map ms) plan.verdict (named ms) (moved_control n levels t ps map ms) =
          subst (λ (v : Verdict). Outcome (apply_answer n levels t ps map ms) (apply_positions n levels t ps map ms) (apply_map n levels t ps map ms) v (named ms) (moved_control n levels t ps map ms))
          (ap (λ (b : Verdict). and_then b (pending_verdict (moved n levels t ps map ms))) e ∙ sym m.verdict) by_list in
          same_outcome plan.verdict
          (subst (λ (b : Verdict). Outcome (settle_answer plan (length ms) levels t ps map) (settle_positions plan (length ms) levels t ps map) (settle_map plan (length ms) levels t ps map)
          (and_then b plan.verdict) (named_in (planned plan)) (laid ps (planned plan))) e by_plan)
          list
          (λ q. (m.names q, m.points q))
      go (Err r) e =
          same_outcome (Err r)
          (subst (λ (b : Verdict). Outcome (settle_answer plan (length ms) levels t ps map) (settle_positions plan (length ms) levels t ps map) (settle_map plan (length ms) levels t ps map)
          (and_then b plan.verdict) (named_in (planned plan)) (laid ps (planned plan))) e by_plan)
          (subst (λ (b : Verdict). Outcome (apply_answer n levels t ps map ms) (apply_positions n levels t ps map ms) (apply_map n levels t ps map ms)
          (and_then b (pending_verdict (moved n levels t ps map ms))) (named ms) (moved_control n levels t ps map ms)) e by_list)
          (λ q. absurd (let z : ◌≡◌ {A = ℕ} 0 1 = cc in omega arith))
