-- The plan of a list of moves means what section "Moves" says of the list, for positions that the check accepts and at most 64 moves:
--     plan_means       its verdict is the list's; where it is accepted, its entries laid over the positions give the control points after the list, and they name the vertices that the list names
-- Assumes nothing.
use Rattle.std.proofs.Common.{Result, Ok, Err}
use mathlib.Core.Path.{◌≡◌, refl, sym, ap, subst, ◌∙◌, fun_ext}
use mathlib.Core.Bool.{Bool, cond, ◌||◌}
use mathlib.Core.List.{List, [], ◌∷◌, ◌++◌}
use mathlib.Core.Logic.{⊎_elim}
use Prim.Native.Nat.{ℕ, suc, ◌+◌, ◌*◌, ◌≤◌, ◌<◌}
use native.Mathlib.Numerals.{add-one}
use native.Mathlib.Omega.{arith}
use borrow.Author.Tests.{lt-ltb, le-leb, lt-leb}
use lib.Dec.{eqb}
use lib.IntN.{ℤ}
use lib.ListN.{length, get_or}
use lib.Seq.{take-suc-set}
use Rattle.mesh.specs.Limits.{most_moves}
use Rattle.mesh.proofs.Lists.{le_split}
use Rattle.units.specs.Coordinate.{InRange}
use Rattle.millimetres.specs.Millimetres.{mm_of}
use Rattle.millimetres.specs.Move.{moved_to}
use Rattle.units.specs.declared.Point.{Point}
use Rattle.millimetres.specs.declared.Unmoved.{Unmoved}
use Rattle.millimetres.specs.declared.Unmoved.TheVariants.{NotFinite, OutOfReach}
use Rattle.rings.specs.Table.{coordinate_at, point_at}
use Rattle.rings.specs.declared.Refusal.{Refusal}
use Rattle.rings.specs.declared.Refusal.TheVariants as refusal
use Rattle.rings.proofs.Checks.{not_beyond}
use Rattle.move_plan.specs.Moves.{Pending, pending, stopped, settle, step, run, named, pending_verdict, pending_points}
use Rattle.move_plan.specs.Plan.{Near, Fair, origin, opened_plan, planned, named_in, laid, read_point, kept_point, latest_point, current_point, noted_in, refused_in, result_in, taken_in, step_of, walk_of}
use Rattle.move_plan.specs.declared.Move.{Move}
use Rattle.move_plan.specs.declared.Entry.{Entry}
use Rattle.move_plan.specs.declared.Plan.{Plan}
use Rattle.move_plan.proofs.Plans.{kept_self, step_refused, step_unknown, step_taken}
use Rattle.move_plan.proofs.Walks.{not_both, walk_refused}
use Rattle.move_plan.proofs.FairPlans.{opened_fair, step_fair}
use Rattle.move_plan.proofs.Laid.{Each, Low, NearEntry, point_near, each_take, latest_laid, latest_near, laid_append, named_append, or_assoc, or_none}
use Rattle.rings.specs.Refusal.{Verdict}
use Rattle.std.specs.Prelude.{Ok, Err}

-- this plan means what the list says, for n control vertices at these positions
pub record Means (n : ℕ) (ps : List ℤ) (ms : List Move) (s : Plan) : Type 0 where
  pub verdict : s.verdict ≡ pending_verdict (run n ms 0 (pending ps))
  pub points : s.verdict ≡ (Ok tt) → laid ps (planned s) ≡ pending_points (run n ms 0 (pending ps)) ps
  pub names : s.verdict ≡ (Ok tt) → named_in (planned s) ≡ named ms

-- ---- what a plan means

abbrev outcome : Verdict → List ℤ → Pending
outcome (Ok u) l = pending l
outcome (Err r) l = stopped r

outcome_verdict : (r : Verdict) (l : List ℤ) → pending_verdict (outcome r l) ≡ r
outcome_verdict (Ok u) l = refl
outcome_verdict (Err r) l = refl

outcome_points : (r : Verdict) (l old : List ℤ) → r ≡ (Ok tt) → l ≡ pending_points (outcome r l) old
outcome_points (Ok u) l old e = refl
outcome_points (Err r) l old e = not_both (Err r) r e refl

meaning : List ℤ → Plan → Pending
meaning ps s = outcome s.verdict (laid ps (planned s))

-- an entry more
planned_noted : (s : Plan) (v : ℕ) (p : Point) → s.taken < length s.entries → planned (noted_in s v p) ≡ planned s ++ (record { vertex = v; point = p } ∷ [])
unfolding planned noted_in
planned_noted s v p h = rw add-one (take-suc-set s.entries s.taken (record { vertex = v; point = p }) h)

module _ (n : ℕ) (ps : List ℤ) (room : n * 3 ≤ length ps) (near : (v : ℕ) → v < n → Near (point_at ps v)) where
  -- a plan t after the move m at list place i, from a plan s
  record Stepped (s : Plan) (m : Move) (i : ℕ) (t : Plan) : Type 0 where
    count : t.count ≡ n
    next : t.verdict ≡ (Ok tt) → t.taken ≡ suc i
    means : step n (meaning ps s) m i ≡ meaning ps t
    names : t.verdict ≡ (Ok tt) → (v : ℕ) → named_in (planned t) v ≡ named_in (planned s) v || eqb m.vertex v

  module _ (s : Plan) (f : Fair s) (c : s.count ≡ n) where
    entries_low : Each (Low n) (planned s)
    unfolding planned
    entries_low = each_take (Low n) s.entries s.taken (omega (arith, f.few, f.size)) (λ k l d. subst (λ (j : ℕ). (get_or s.entries k d).vertex < j) c (f.below k l d))

    entries_near : Each NearEntry (planned s)
    unfolding planned
    entries_near = each_take NearEntry s.entries s.taken (omega (arith, f.few, f.size)) (λ k l d. f.near k l d)

    current_is : (v : ℕ) → v < n → current_point ps s v ≡ point_at (laid ps (planned s)) v
    unfolding current_point read_point
    current_is v h =
        let inside : v * 3 + 2 < length ps = omega arith in
        let p : Point = latest_point (planned s) v (point_at ps v) in
        let a : Near p = latest_near (planned s) entries_near v (point_at ps v) (near v h) in
        ap (λ (b : Bool). kept_point (latest_point (planned s) v (cond b (point_at ps v) origin))) (lt-ltb (v * 3 + 2) (length ps) inside)
        ∙ sym (kept_self p (sym (not_beyond _ a.x)) (sym (not_beyond _ a.y)) (sym (not_beyond _ a.z)))
        ∙ latest_laid n (planned s) ps room entries_low v

    -- a refused move
    refused_step : (e : s.verdict ≡ (Ok tt)) (m : Move) (i : ℕ) (r : Refusal) → step n (pending (laid ps (planned s))) m i ≡ stopped r → Stepped s m i (refused_in s r)
    unfolding refused_in meaning
    refused_step e m i r h =
        record
        { count = c; next = λ q. not_both (Err r) r q refl; means = ap (λ (k : Verdict). step n (outcome k (laid ps (planned s))) m i) e ∙ h; names = λ q. not_both (Err r) r q refl }

    -- an accepted one
    noted_step : (e : s.verdict ≡ (Ok tt)) (m : Move) (i : ℕ) (p : Point) → s.taken ≡ i → i < 64 → step n (pending (laid ps (planned s))) m i ≡ settle (laid ps (planned s)) m.vertex i (Ok p) → Stepped s m i (noted_in s m.vertex p)
    unfolding noted_in meaning
    noted_step e m i p k l h =
        let entry : Entry = record { vertex = m.vertex; point = p } in
        let more : planned (noted_in s m.vertex p) ≡ planned s ++ (entry ∷ []) = planned_noted s m.vertex p (omega (arith, f.size)) in
        record {
          count = c;
          next = λ q. omega (arith, add-one s.taken);
          means = ap (λ (x : Verdict). step n (outcome x (laid ps (planned s))) m i) e ∙ h ∙ ap pending (sym (ap (laid ps) more ∙ laid_append ps (planned s) entry));
          names = λ q v. ap (λ (es : List Entry). named_in es v) more ∙ named_append (planned s) entry v;
        }

    module _ (e : s.verdict ≡ (Ok tt)) (m : Move) (i : ℕ) (k : s.taken ≡ i) (l : i < 64) where
      result_step : (g : Result Point Unmoved) → step n (pending (laid ps (planned s))) m i ≡ settle (laid ps (planned s)) m.vertex i g → Stepped s m i (result_in s m.vertex g)
      result_step (Ok p) h = noted_step e m i p k l h
      result_step (Err NotFinite) h = refused_step e m i (refusal.NotFinite s.taken) (h ∙ ap (λ (j : ℕ). stopped (refusal.NotFinite j)) (sym k))
      result_step (Err OutOfReach) h = refused_step e m i (refusal.OutOfReach s.taken) (h ∙ ap (λ (j : ℕ). stopped (refusal.OutOfReach j)) (sym k))

      unknown : s.count ≤ m.vertex → step n (pending (laid ps (planned s))) m i ≡ stopped (refusal.NoSuchVertex s.taken)
      unfolding step
      unknown h = rw (le-leb n m.vertex (omega (arith, c)), k)

      known : m.vertex < s.count → step n (pending (laid ps (planned s))) m i ≡ settle (laid ps (planned s)) m.vertex i (moved_to (mm_of (current_point ps s m.vertex)) m.change)
      unfolding step
      known h =
          let low : m.vertex < n = omega (arith, c) in
          rw (lt-leb n m.vertex low, current_is m.vertex low)

      accepted_step : Stepped s m i (step_of ps s m)
      unfolding taken_in
      accepted_step = ⊎_elim
          (λ h. subst (Stepped s m i) (step_unknown ps s m e (omega arith) _ h.1 refl) (refused_step e m i (refusal.NoSuchVertex s.taken) (unknown h.1)))
          (λ h. subst (Stepped s m i) (step_taken ps s m e (omega arith) _ h.1 refl) (result_step (moved_to (mm_of (current_point ps s m.vertex)) m.change) (known h.1)))
          (le_split s.count m.vertex)

    kept_step : (r : Refusal) → s.verdict ≡ Err r → (m : Move) (i : ℕ) → Stepped s m i s
    unfolding step meaning
    kept_step r e m i = record { count = c; next = λ q. not_both s.verdict r q e; means = rw e; names = λ q. not_both s.verdict r q e }

    step_by : (v : Verdict) → s.verdict ≡ v → (m : Move) (i : ℕ) → (s.verdict ≡ (Ok tt) → s.taken ≡ i) → i < 64 → Stepped s m i (step_of ps s m)
    step_by (Ok u) e m i k l = accepted_step e m i (k e) l
    step_by (Err r) e m i k l = subst (Stepped s m i) (step_refused ps s m r e) (kept_step r e m i)

  stepped : (s : Plan) → Fair s → s.count ≡ n → (m : Move) (i : ℕ) → (s.verdict ≡ (Ok tt) → s.taken ≡ i) → i < 64 → Stepped s m i (step_of ps s m)
  stepped s f c m i k l = step_by s f c s.verdict refl m i k l

  walk_means : (ms : List Move) (s : Plan) → Fair s → s.count ≡ n → (i : ℕ) → (s.verdict ≡ (Ok tt) → s.taken ≡ i) → i + length ms ≤ 64 → run n ms i (meaning ps s) ≡ meaning ps (walk_of ps ms s)
  unfolding walk_of
  walk_means [] s f c i k l = refl
  walk_means (m ∷ ms) s f c i k l =
      let d = stepped s f c m i k (omega arith) in
      ap (run n ms (suc i)) d.means ∙ walk_means ms (step_of ps s m) (step_fair ps s m f) d.count (suc i) d.next (omega arith)

  -- the names after a move, where the rest of the list is accepted
  names_by : (ms : List Move) (s t : Plan) (m : Move) (v : ℕ) (r : Verdict) → t.verdict ≡ r → (walk_of ps ms t).verdict ≡ (Ok tt)
      → (t.verdict ≡ (Ok tt) → named_in (planned t) v ≡ named_in (planned s) v || eqb m.vertex v) → named_in (planned (walk_of ps ms t)) v ≡ named_in (planned t) v || named ms v
      → named_in (planned (walk_of ps ms t)) v ≡ named_in (planned s) v || named (m ∷ ms) v
  names_by ms s t m v (Ok u) e a one rest = rest ∙ ap (λ (b : Bool). b || named ms v) (one e) ∙ or_assoc (named_in (planned s) v) (eqb m.vertex v) (named ms v)
  names_by ms s t m v (Err r) e a one rest = not_both t.verdict r (ap (λ (x : Plan). x.verdict) (sym (walk_refused ps ms t r e)) ∙ a) e

  walk_names : (ms : List Move) (s : Plan) → Fair s → s.count ≡ n → (i : ℕ) → (s.verdict ≡ (Ok tt) → s.taken ≡ i) → i + length ms ≤ 64 → (walk_of ps ms s).verdict ≡ (Ok tt) → (v : ℕ) → named_in (planned (walk_of ps ms s)) v ≡ named_in (planned s) v || named ms v
  unfolding walk_of
  walk_names [] s f c i k l a v = sym (or_none (named_in (planned s) v))
  walk_names (m ∷ ms) s f c i k l a v =
      let d = stepped s f c m i k (omega arith) in
      names_by ms s (step_of ps s m) m v (step_of ps s m).verdict refl a (λ e. d.names e v) (walk_names ms (step_of ps s m) (step_fair ps s m f) d.count (suc i) d.next (omega arith) a v)

module _ (n : ℕ) (ps : List ℤ) (ms : List Move) (room : n * 3 ≤ length ps) (near : (v : ℕ) → v < n → (axis : ℕ) → axis < 3 → InRange (coordinate_at ps axis v)) (few : length ms ≤ most_moves) where
  near_point : (v : ℕ) → v < n → Near (point_at ps v)
  near_point v h = point_near ps v (near v h)

  from_empty : run n ms 0 (pending ps) ≡ meaning ps (walk_of ps ms (opened_plan n (Ok tt)))
  unfolding opened_plan planned meaning
  from_empty = walk_means n ps room near_point ms (opened_plan n (Ok tt)) (opened_fair n (Ok tt)) refl 0 (λ q. refl) (omega arith)

  names_empty : (walk_of ps ms (opened_plan n (Ok tt))).verdict ≡ (Ok tt) → (v : ℕ) → named_in (planned (walk_of ps ms (opened_plan n (Ok tt)))) v ≡ named ms v
  unfolding opened_plan planned
  names_empty a v = walk_names n ps room near_point ms (opened_plan n (Ok tt)) (opened_fair n (Ok tt)) refl 0 (λ q. refl) (omega arith) a v

  pub plan_means : Means n ps ms (walk_of ps ms (opened_plan n (Ok tt)))
  unfolding meaning
  plan_means = record {
    verdict = sym (ap pending_verdict from_empty ∙ outcome_verdict _ _);
    points = λ a. outcome_points _ _ ps a ∙ sym (ap (λ (k : Pending). pending_points k ps) from_empty);
    names = λ a. fun_ext (names_empty a);
  }
