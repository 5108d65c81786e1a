-- Every plan that a list of moves comes to can be carried out: at most 64 entries, of control vertices, with points in the range.
-- Assumes nothing.
use Rattle.std.proofs.Common.{Result, Ok, Err}
use mathlib.Core.Path.{◌≡◌, refl, sym, subst, ◌∙◌}
use mathlib.Core.Bool.{Bool, true, false, cond, ◌&&◌}
use mathlib.Core.List.{List, [], ◌∷◌}
use mathlib.Core.Logic.{◌⊎◌, inl, inr, ⊎_elim}
use Prim.Native.Nat.{ℕ, ◌+◌, ◌<◌}
use native.Mathlib.Omega.{arith}
use borrow.Author.Tests.{leb-false}
use lib.Dec.{T, leb}
use lib.IntN.{ℤ}
use lib.ListN.{get_or, set, length-set}
use lib.Seq.{get_or-set_same, get_or-set_other}
use Rattle.mesh.proofs.First.{true_not_false}
use Rattle.mesh.proofs.Lists.{eq_split}
use Rattle.millimetres.specs.Millimetres.{inside, units_of, mm_of}
use Rattle.millimetres.specs.Move.{fit, changed_by, settled_at, moved_to}
use Rattle.millimetres.specs.declared.Mm.{Mm}
use Rattle.units.specs.declared.Point.{Point}
use Rattle.millimetres.specs.declared.Change.{Change}
use Rattle.millimetres.specs.declared.Unmoved.{Unmoved}
use Rattle.millimetres.specs.declared.Unmoved.TheVariants.{NotFinite, OutOfReach}
use Rattle.millimetres.proofs.FloatsInUnits.{units_in}
use Rattle.millimetres.proofs.MoveCases.{moved_by, settled_by}
use Rattle.rings.specs.Verdict.{after}
use Rattle.rings.specs.declared.Refusal.{Refusal}
use Rattle.rings.specs.declared.Refusal.TheVariants as refusal
use Rattle.move_plan.specs.Plan.{Near, Fair, opened_plan, current_point, noted_in, refused_in, result_in, taken_in, step_of, walk_of}
use Rattle.move_plan.specs.declared.Move.{Move}
use Rattle.move_plan.specs.declared.Entry.{Entry}
use Rattle.move_plan.specs.declared.Plan.{Plan}
use Rattle.rings.specs.Refusal.{Verdict}
use Rattle.std.specs.Prelude.{Ok, Err}

three : (a b c : Bool) → a && b && c ≡ true → T a × (T b × T c)
three true true true e = (tt, (tt, tt))
three true true false e = absurd (true_not_false e refl)
three true false c e = absurd (true_not_false e refl)
three false b c e = absurd (true_not_false e refl)

-- what a move gives is in the range
settled_near : (m : Mm) (b : Bool) → inside m.x && inside m.y && inside m.z ≡ b → (q : Point) → settled_at m ≡ Ok q → Near q
settled_near m true e q h =
    let i = three (inside m.x) (inside m.y) (inside m.z) e in
    let g : Ok (record { x = units_of m.x; y = units_of m.y; z = units_of m.z }) ≡ Ok q = sym (settled_by m true e) ∙ h in
    let k : record { x = units_of m.x; y = units_of m.y; z = units_of m.z } ≡ q = cc in
    subst Near k (record { x = units_in m.x i.0; y = units_in m.y i.1.0; z = units_in m.z i.1.1 })
settled_near m false e q h = let g : Err OutOfReach ≡ Ok q = sym (settled_by m false e) ∙ h in absurd (let z : ◌≡◌ {A = ℕ} 0 1 = cc in omega arith)

moved_near_by : (p : Mm) (c : Change) (b : Bool) → fit c ≡ b → (q : Point) → moved_to p c ≡ Ok q → Near q
moved_near_by p c true e q h = settled_near (changed_by p c) (inside (changed_by p c).x && inside (changed_by p c).y && inside (changed_by p c).z) refl q (sym (moved_by p c true e) ∙ h)
moved_near_by p c false e q h = let g : Err NotFinite ≡ Ok q = sym (moved_by p c false e) ∙ h in absurd (let z : ◌≡◌ {A = ℕ} 0 1 = cc in omega arith)

pub moved_near : (p : Mm) (c : Change) (q : Point) → moved_to p c ≡ Ok q → Near q
moved_near p c q h = moved_near_by p c (fit c) refl q h

pub opened_fair : (n : ℕ) (r : Verdict) → Fair (opened_plan n r)
unfolding opened_plan
opened_fair n r = record { size = refl; few = omega arith; below = λ k h d. absurd (omega arith); near = λ k h d. absurd (omega arith) }

refused_fair : (s : Plan) (r : Refusal) → Fair s → Fair (refused_in s r)
unfolding refused_in
refused_fair s r f = record { size = f.size; few = f.few; below = f.below; near = f.near }

-- an entry more
module _ (s : Plan) (f : Fair s) (room : s.taken < 64) (v : ℕ) (low : v < s.count) (q : Point) (near : Near q) where
  abbrev entry : Entry
  entry = record { vertex = v; point = q }

  entry_is : (k : ℕ) → k < s.taken + 1 → (d : Entry) → ((k < s.taken) × (get_or (set s.entries s.taken entry) k d ≡ get_or s.entries k d)) ⊎ (get_or (set s.entries s.taken entry) k d ≡ entry)
  entry_is k h d = ⊎_elim
      (λ e. inr (subst (λ (j : ℕ). get_or (set s.entries s.taken entry) j d ≡ entry) (sym e.1) (get_or-set_same s.entries s.taken entry d (omega (arith, f.size)))))
      (λ e. inl (omega (arith, e.1), get_or-set_other s.entries s.taken k entry d e.1))
      (eq_split k s.taken)

  pub noted_fair : Fair (noted_in s v q)
  unfolding noted_in
  noted_fair = record {
    size = length-set s.entries s.taken entry ∙ f.size;
    few = omega arith;
    below = λ k h d. ⊎_elim (λ e. subst (λ (x : Entry). x.vertex < s.count) (sym e.1) (f.below k e.0 d)) (λ e. subst (λ (x : Entry). x.vertex < s.count) (sym e) low) (entry_is k h d);
    near = λ k h d. ⊎_elim (λ e. subst (λ (x : Entry). Near x.point) (sym e.1) (f.near k e.0 d)) (λ e. subst (λ (x : Entry). Near x.point) (sym e) near) (entry_is k h d);
  }

result_fair : (s : Plan) → Fair s → s.taken < 64 → (v : ℕ) → v < s.count → (g : Result Point Unmoved) → ((q : Point) → g ≡ Ok q → Near q) → Fair (result_in s v g)
result_fair s f room v low (Ok q) near = noted_fair s f room v low q (near q refl)
result_fair s f room v low (Err NotFinite) near = refused_fair s (refusal.NotFinite s.taken) f
result_fair s f room v low (Err OutOfReach) near = refused_fair s (refusal.OutOfReach s.taken) f

module _ (ps : List ℤ) (s : Plan) (m : Move) (f : Fair s) where
  below_by : (b : Bool) → leb s.count m.vertex ≡ b → s.taken < 64 → Fair (cond b (refused_in s (refusal.NoSuchVertex s.taken)) (taken_in ps s m))
  unfolding taken_in
  below_by true e room = refused_fair s (refusal.NoSuchVertex s.taken) f
  below_by false e room = result_fair s f room m.vertex (leb-false s.count m.vertex e) _ (moved_near _ m.change)

  room_by : (b : Bool) → leb 64 s.taken ≡ b → Fair (cond b s (cond (leb s.count m.vertex) (refused_in s (refusal.NoSuchVertex s.taken)) (taken_in ps s m)))
  room_by true e = f
  room_by false e = below_by (leb s.count m.vertex) refl (leb-false 64 s.taken e)

  verdict_by : (r : Verdict) → Fair (after r (cond (leb 64 s.taken) s (cond (leb s.count m.vertex) (refused_in s (refusal.NoSuchVertex s.taken)) (taken_in ps s m))) s)
  unfolding after
  verdict_by (Ok u) = room_by (leb 64 s.taken) refl
  verdict_by (Err r) = f

  pub step_fair : Fair (step_of ps s m)
  unfolding step_of
  step_fair = verdict_by s.verdict

walk_fair_from : (ps : List ℤ) (ms : List Move) (s : Plan) → Fair s → Fair (walk_of ps ms s)
unfolding walk_of
walk_fair_from ps [] s f = f
walk_fair_from ps (m ∷ ms) s f = walk_fair_from ps ms (step_of ps s m) (step_fair ps s m f)

-- the plan of a list is fair, whatever the table holds
pub walk_fair : (ps : List ℤ) (ms : List Move) (n : ℕ) (r : Verdict) → Fair (walk_of ps ms (opened_plan n r))
walk_fair ps ms n r = walk_fair_from ps ms (opened_plan n r) (opened_fair n r)

-- ---- it is a plan for the same vertices

result_count : (s : Plan) (v : ℕ) (g : Result Point Unmoved) → (result_in s v g).count ≡ s.count
unfolding noted_in refused_in
result_count s v (Ok q) = refl
result_count s v (Err NotFinite) = refl
result_count s v (Err OutOfReach) = refl

module _ (ps : List ℤ) (s : Plan) (m : Move) where
  count_by : (r : Verdict) (a b : Bool) → (after r (cond a s (cond b (refused_in s (refusal.NoSuchVertex s.taken)) (taken_in ps s m))) s).count ≡ s.count
  unfolding after refused_in taken_in
  count_by (Err r) a b = refl
  count_by (Ok u) true b = refl
  count_by (Ok u) false true = refl
  count_by (Ok u) false false = result_count s m.vertex (moved_to (mm_of (current_point ps s m.vertex)) m.change)

  step_count : (step_of ps s m).count ≡ s.count
  unfolding step_of
  step_count = count_by s.verdict (leb 64 s.taken) (leb s.count m.vertex)

walk_count_from : (ps : List ℤ) (ms : List Move) (s : Plan) → (walk_of ps ms s).count ≡ s.count
unfolding walk_of
walk_count_from ps [] s = refl
walk_count_from ps (m ∷ ms) s = walk_count_from ps ms (step_of ps s m) ∙ step_count ps s m

pub walk_count : (ps : List ℤ) (ms : List Move) (n : ℕ) (r : Verdict) → (walk_of ps ms (opened_plan n r)).count ≡ n
unfolding opened_plan
walk_count ps ms n r = walk_count_from ps ms (opened_plan n r)
