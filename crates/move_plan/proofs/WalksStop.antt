-- How far a list is looked at: no further once the plan is refused, and to its 64th move at most. What stands behind changes nothing:
--     walk_stops       the moves that are left where the walk stops leave the plan as it is
-- Assumes nothing.
use mathlib.Core.Path.{◌≡◌, refl, sym, ap, subst}
use mathlib.Core.Bool.{Bool, true, false, cond}
use mathlib.Core.List.{List, []}
use mathlib.Core.Logic.{⊎_elim}
use Prim.Native.Nat.{ℕ, ◌+◌, ◌≤◌, ◌<◌}
use native.Mathlib.Omega.{arith}
use borrow.Author.Tests.{lt-ltb, le-ltb, ltb-true, ltb-false}
use lib.Dec.{ltb}
use lib.IntN.{ℤ}
use lib.ListN.{length, drop, drop_of_length-le}
use Rattle.mesh.proofs.Lists.{le_split}
use Rattle.millimetres.specs.Millimetres.{mm_of}
use Rattle.millimetres.specs.Move.{moved_to}
use Rattle.millimetres.specs.declared.Unmoved.{Unmoved}
use Rattle.millimetres.specs.declared.Unmoved.TheVariants.{NotFinite, OutOfReach}
use Rattle.units.specs.declared.Point.{Point}
use Rattle.rings.specs.Verdict.{after}
use Rattle.rings.specs.declared.Refusal.{Refusal}
use Rattle.rings.specs.declared.Refusal.TheVariants as refusal
use Rattle.move_plan.specs.Plan.{current_point, noted_in, refused_in, result_in, taken_in, step_of, ahead_of, walk_of}
use Rattle.move_plan.specs.declared.Move.{Move}
use Rattle.move_plan.specs.declared.Plan.{Plan}
use Rattle.move_plan.proofs.Plans.{step_refused, step_full, step_unknown, step_taken}
use Rattle.rings.specs.Refusal.{Verdict}
use Rattle.std.specs.Prelude.{Result, Ok, Err}
use Rattle.move_plan.proofs.Walks.{not_both, walk_refused, walk_full, walk_over, one_more, walk_end}

-- ---- how far a list is looked at

module _ (s : Plan) (moves : ℕ) where
  pub ahead_none : (r : Refusal) → s.verdict ≡ Err r → 0 ≡ ahead_of s moves
  unfolding ahead_of after
  ahead_none r e = rw e

  pub ahead_most : s.verdict ≡ (Ok tt) → 64 < moves → 64 ≡ ahead_of s moves
  unfolding ahead_of after
  ahead_most e h = rw (e, lt-ltb 64 moves h)

  pub ahead_all : s.verdict ≡ (Ok tt) → moves ≤ 64 → moves ≡ ahead_of s moves
  unfolding ahead_of after
  ahead_all e h = rw (e, le-ltb 64 moves h)

  below_by : (v : Verdict) (b : Bool) → ltb 64 moves ≡ b → after v (cond b 64 moves) 0 ≤ moves
  unfolding after
  below_by (Err r) b e = omega arith
  below_by (Ok u) true e = let h = ltb-true 64 moves e in omega arith
  below_by (Ok u) false e = omega arith

  pub ahead_below : ahead_of s moves ≤ moves
  unfolding ahead_of
  ahead_below = below_by s.verdict (ltb 64 moves) refl

  few_by : (v : Verdict) (b : Bool) → ltb 64 moves ≡ b → after v (cond b 64 moves) 0 ≤ 64
  unfolding after
  few_by (Err r) b e = omega arith
  few_by (Ok u) true e = omega arith
  few_by (Ok u) false e = ltb-false 64 moves e

  ahead_few : ahead_of s moves ≤ 64
  unfolding ahead_of
  ahead_few = few_by s.verdict (ltb 64 moves) refl

-- an accepted plan after i moves has taken as many
abbrev pub Counted : ℕ → Plan → Type 0
Counted i s = s.verdict ≡ (Ok tt) → i ≤ s.taken

module _ (ps : List ℤ) where
  -- ---- after i moves, an accepted plan has taken as many

  refused_counted : (i : ℕ) (s : Plan) (r : Refusal) → Counted i (refused_in s r)
  unfolding refused_in
  refused_counted i s r q = not_both (Err r) r q refl

  result_counted : (i : ℕ) (s : Plan) (v : ℕ) (g : Result Point Unmoved) → i ≤ s.taken → Counted (i + 1) (result_in s v g)
  unfolding noted_in
  result_counted i s v (Ok p) h q = omega arith
  result_counted i s v (Err NotFinite) h q = refused_counted (i + 1) s (refusal.NotFinite s.taken) q
  result_counted i s v (Err OutOfReach) h q = refused_counted (i + 1) s (refusal.OutOfReach s.taken) q

  module _ (i : ℕ) (s : Plan) (m : Move) where
    room_counted : s.verdict ≡ (Ok tt) → s.taken < 64 → i ≤ s.taken → Counted (i + 1) (step_of ps s m)
    unfolding taken_in
    room_counted e l h = ⊎_elim
        (λ u. subst (Counted (i + 1)) (step_unknown ps s m e l _ u.1 refl) (refused_counted (i + 1) s (refusal.NoSuchVertex s.taken)))
        (λ u.
        subst (Counted (i + 1)) (step_taken ps s m e l _ u.1 refl)
        (result_counted i s m.vertex (moved_to (mm_of (current_point ps s m.vertex)) m.change) h))
        (le_split s.count m.vertex)

    step_by : (v : Verdict) → s.verdict ≡ v → i < 64 → Counted i s → Counted (i + 1) (step_of ps s m)
    step_by (Err r) e l c = subst (Counted (i + 1)) (step_refused ps s m r e) (λ q. not_both s.verdict r q e)
    step_by (Ok u) e l c = ⊎_elim
        (λ u. subst (Counted (i + 1)) (step_full ps s m e u.1) (λ q. omega (arith, u.1)))
        (λ u. room_counted e u.1 (c e))
        (le_split 64 s.taken)

    pub step_counted : (moves : ℕ) → i < ahead_of s moves → Counted i s → Counted (i + 1) (step_of ps s m)
    step_counted moves l = step_by s.verdict refl (omega (arith, ahead_few s moves))

  -- ---- where the walk stops, the moves that are left change nothing

  module _ (rest : List Move) (s : Plan) (i moves : ℕ) (none : moves ≤ i → rest ≡ []) (c : Counted i s) where
    ended : moves ≤ i → walk_of ps rest s ≡ s
    unfolding walk_of
    ended h = ap (λ (l : List Move). walk_of ps l s) (none h)

    stops_by : (v : Verdict) (b : Bool) → s.verdict ≡ v → after v (cond b 64 moves) 0 ≤ i → walk_of ps rest s ≡ s
    unfolding after
    stops_by (Err r) b e h = walk_refused ps rest s r e
    stops_by (Ok u) true e h = let l = c e in walk_full ps rest s e (omega arith)
    stops_by (Ok u) false e h = ended h

    pub walk_stops : ahead_of s moves ≤ i → walk_of ps rest s ≡ s
    unfolding ahead_of
    walk_stops = stops_by s.verdict (ltb 64 moves) refl

-- one move more, where the walk goes on: an accepted plan has taken one more
pub counted_more : (ps : List ℤ) (moves i a : ℕ) (s r : Plan) (m : Move) → a ≡ ahead_of s moves → i < a → Counted i s → r ≡ step_of ps s m → Counted (i + 1) r
counted_more ps moves i a s r m e l c q = subst (Counted (i + 1)) (sym q) (step_counted ps i s m moves (omega (arith, e)) c)

-- the same of the moves of a list from place i on
pub walk_ahead : (ps : List ℤ) (ms : List Move) (i : ℕ) (s : Plan) → Counted i s → ahead_of s (length ms) ≤ i → walk_of ps (drop i ms) s ≡ s
walk_ahead ps ms i s c = walk_stops ps (drop i ms) s i (length ms) (λ l. drop_of_length-le ms l) c

-- how a walk goes on, stops and ends
pub ruleset walking = (one_more, walk_over, walk_ahead, walk_end)
