-- What a list of moves does to the control points: only named vertices change, and the table keeps its length. Assumes nothing.
use Rattle.std.proofs.Common.{Result, Ok, Err}
use Prim.Native.Nat.{ℕ, suc, ◌+◌, ◌*◌, ◌≤◌, ◌<◌}
use mathlib.Core.Path.{◌≡◌, refl, sym, ◌∙◌}
use mathlib.Core.Bool.{Bool, false, ◌||◌}
use mathlib.Core.List.{List, [], ◌∷◌}
use mathlib.Core.Logic.{⊎_elim}
use native.Mathlib.Omega.{arith}
use lib.Dec.{eqb}
use lib.IntN.{ℤ, pos}
use lib.ListN.{length}
use borrow.Author.Tests.{eqb-false, ne_eqb}
use Rattle.mesh.proofs.First.{or_false, or_both}
use Rattle.mesh.proofs.Lists.{lt_split, le_split}
use Rattle.millimetres.specs.Move.{moved_to}
use Rattle.millimetres.specs.Millimetres.{mm_of}
use Rattle.units.specs.declared.Point.{Point}
use Rattle.millimetres.specs.declared.Unmoved.{Unmoved}
use Rattle.millimetres.specs.declared.Unmoved.TheVariants.{NotFinite, OutOfReach}
use Rattle.rings.specs.Table.{coordinate_at, point_at}
use Rattle.rings.specs.declared.Refusal.{Refusal}
use Rattle.rings.proofs.Tables.{length_put, put_before, put_behind}
use Rattle.move_plan.specs.Moves.{Pending, pending, stopped, placed, settle, step, run, named}
use Rattle.move_plan.specs.declared.Move.{Move}

-- the second table is as long as the first, and differs from it at marked vertices only
pub record ChangedAt (marks : ℕ → Bool) (ps qs : List ℤ) : Type 0 where
  pub long : length qs ≡ length ps
  pub same : (v axis : ℕ) → axis < 3 → marks v ≡ false → coordinate_at qs axis v ≡ coordinate_at ps axis v

changed_none : (ps : List ℤ) → ChangedAt (λ v. false) ps ps
changed_none ps = record { long = refl; same = λ v axis h e. refl }

changed_both : (a b : ℕ → Bool) (ps qs ts : List ℤ) → ChangedAt a ps qs → ChangedAt b qs ts → ChangedAt (λ v. a v || b v) ps ts
changed_both a b ps qs ts f g = record {
  long = g.long ∙ f.long;
  same = λ v axis h e. let o = or_false (a v) (b v) e in g.same v axis h o.1 ∙ f.same v axis h o.0;
}

placed_changes : (ps : List ℤ) (w : ℕ) (p : Point) → w * 3 + 3 ≤ length ps → ChangedAt (eqb w) ps (placed ps w p)
unfolding placed coordinate_at
placed_changes ps w p room = record {
  long = length_put ps (w * 3) (p.x ∷ p.y ∷ p.z ∷ []) room;
  same = λ v axis h e. let ne = eqb-false w v e in
      ⊎_elim
      (λ l. put_before ps (w * 3) (p.x ∷ p.y ∷ p.z ∷ []) room (pos 0) (v * 3 + axis) (let q = l.1 in omega arith))
      (λ l. put_behind ps (w * 3) (p.x ∷ p.y ∷ p.z ∷ []) room (pos 0) (v * 3 + axis) (later v axis l.1 ne))
      (lt_split v w);
}
  where
    later : (v axis : ℕ) → w ≤ v → (w ≡ v → ⊥) → w * 3 + 3 ≤ v * 3 + axis
    later v axis l ne = ⊎_elim (λ q. let r = q.1 in omega arith) (λ q. absurd (ne (let r = q.1 in omega arith))) (lt_split w v)

settled_changes : (ps : List ℤ) (w i : ℕ) (m : Result Point Unmoved) (qs : List ℤ) → w * 3 + 3 ≤ length ps → settle ps w i m ≡ pending qs → ChangedAt (eqb w) ps qs
settled_changes ps w i (Ok p) qs room e = let q : placed ps w p ≡ qs = cc in rw (sym q) (placed_changes ps w p room)
settled_changes ps w i (Err NotFinite) qs room e = absurd (let z : ◌≡◌ {A = ℕ} 0 1 = cc in omega arith)
settled_changes ps w i (Err OutOfReach) qs room e = absurd (let z : ◌≡◌ {A = ℕ} 0 1 = cc in omega arith)

-- one move changes only its vertex
pub step_changes : (n : ℕ) (ps : List ℤ) (m : Move) (i : ℕ) (qs : List ℤ) → n * 3 ≤ length ps → step n (pending ps) m i ≡ pending qs
    → ChangedAt (eqb m.vertex) ps qs
unfolding step
step_changes n ps m i qs room e =
    ⊎_elim
    (λ l. absurd (let h = rw l.0 at e in let z : ◌≡◌ {A = ℕ} 0 1 = cc in omega arith))
    (λ l. settled_changes ps m.vertex i (moved_to (mm_of (point_at ps m.vertex)) m.change) qs (let q = l.1 in omega arith) (rw l.0 at e))
    (le_split n m.vertex)

-- once a move was refused the rest does nothing
pub run_stopped : (n : ℕ) (ms : List Move) (i : ℕ) (r : Refusal) → run n ms i (stopped r) ≡ stopped r
unfolding step
run_stopped n [] i r = refl
run_stopped n (m ∷ ms) i r = run_stopped n ms (suc i) r

-- a list changes only what it names
pub run_changes : (n : ℕ) (ms : List Move) (i : ℕ) (ps qs : List ℤ) → n * 3 ≤ length ps → run n ms i (pending ps) ≡ pending qs → ChangedAt (named ms) ps qs
run_changes n [] i ps qs room e = let q : ps ≡ qs = cc in rw (sym q) (changed_none ps)
run_changes n (m ∷ ms) i ps qs room e = go (step n (pending ps) m i) refl e (λ ts l h. run_changes n ms (suc i) ts qs l h)
  where
    go : (s : Pending) → step n (pending ps) m i ≡ s → run n ms (suc i) s ≡ pending qs
        → ((ts : List ℤ) → n * 3 ≤ length ts → run n ms (suc i) (pending ts) ≡ pending qs → ChangedAt (named ms) ts qs) → ChangedAt (named (m ∷ ms)) ps qs
    go (pending ts) h e rest =
        let f = step_changes n ps m i ts room h in
        let l = f.long in
        changed_both (eqb m.vertex) (named ms) ps ts qs f (rest ts (omega arith) e)
    go (stopped r) h e rest = absurd (let k = run_stopped n ms (suc i) r in let z : ◌≡◌ {A = ℕ} 0 1 = cc in omega arith)

-- the vertices that an accepted list names are below n
step_below : (n : ℕ) (ps : List ℤ) (m : Move) (i : ℕ) (qs : List ℤ) → step n (pending ps) m i ≡ pending qs → m.vertex < n
unfolding step
step_below n ps m i qs e =
    ⊎_elim
    (λ l. absurd (let h = rw l.0 at e in let z : ◌≡◌ {A = ℕ} 0 1 = cc in omega arith))
    (λ l. l.1)
    (le_split n m.vertex)

pub named_below : (n : ℕ) (ms : List Move) (i : ℕ) (ps qs : List ℤ) → run n ms i (pending ps) ≡ pending qs → (v : ℕ) → n ≤ v → named ms v ≡ false
named_below n [] i ps qs e v l = refl
named_below n (m ∷ ms) i ps qs e v l = go (step n (pending ps) m i) refl e (λ ts h. named_below n ms (suc i) ts qs h v l)
  where
    go : (s : Pending) → step n (pending ps) m i ≡ s → run n ms (suc i) s ≡ pending qs
        → ((ts : List ℤ) → run n ms (suc i) (pending ts) ≡ pending qs → named ms v ≡ false) → named (m ∷ ms) v ≡ false
    go (pending ts) h e rest =
        let b = step_below n ps m i ts h in
        or_both (eqb m.vertex v) (named ms v) (ne_eqb m.vertex v (λ q. omega arith)) (rest ts e)
    go (stopped r) h e rest = absurd (let k = run_stopped n ms (suc i) r in let z : ◌≡◌ {A = ℕ} 0 1 = cc in omega arith)
