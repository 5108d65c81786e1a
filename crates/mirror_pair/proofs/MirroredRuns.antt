-- A list of moves and its mirror image, on control points and their mirror image: refused alike, with the same place, or both carried out,
-- and then the control points are opposite again.
-- Assumes nothing.
use Rattle.std.proofs.Common.{Result, Ok, Err}
use mathlib.Core.Path.{◌≡◌, refl, sym, ap, ◌∙◌, subst}
use mathlib.Core.Bool.{◌||◌}
use mathlib.Core.List.{List, [], ◌∷◌}
use mathlib.Core.Logic.{⊎_elim}
use Prim.Native.Nat.{ℕ, suc, ◌+◌, ◌*◌, ◌≤◌, ◌<◌}
use native.Mathlib.Omega.{arith}
use lib.Dec.{eqb}
use lib.IntN.{ℤ}
use lib.ListN.{length}
use Rattle.mesh.proofs.Lists.{le_split, eq_split}
use Rattle.units.specs.declared.Point.{Point}
use Rattle.millimetres.specs.Millimetres.{mm_of}
use Rattle.millimetres.specs.Move.{moved_to}
use Rattle.millimetres.specs.declared.Unmoved.{Unmoved}
use Rattle.millimetres.specs.declared.Unmoved.TheVariants.{NotFinite, OutOfReach}
use Rattle.mirror.specs.MirroredMove.{mirrored_point, mirrored_moved}
use Rattle.mirror.proofs.MirroredMovesLeadToMirroredPoints.{mirrored_move_lem}
use Rattle.rings.specs.Table.{point_at}
use Rattle.rings.specs.declared.Refusal.{Refusal}
use Rattle.rings.specs.declared.Refusal.TheVariants as refusal
use Rattle.move_plan.proofs.Laid.{length_placed, point_same, point_other}
use Rattle.move_plan.specs.Moves.{Pending, pending, stopped, placed, settle, step, run, named, pending_verdict, pending_points}
use Rattle.move_plan.specs.declared.Move.{Move}
use Rattle.mirror_pair.specs.Pair.{Opposite}
use Rattle.mirror_pair.specs.MirroredLists.{mirrored_move, mirrored_list}

-- the same vertices are named
pub named_mirrored : (ms : List Move) (v : ℕ) → named (mirrored_list ms) v ≡ named ms v
named_mirrored [] v = refl
named_mirrored (m ∷ ms) v = ap (λ b. eqb m.vertex v || b) (named_mirrored ms v)

-- ---- one point set

-- opposite points are mirrored points, and back
point_mirrored : (n : ℕ) (ps ps' : List ℤ) (v : ℕ) → v < n → Opposite n ps ps' → point_at ps' v ≡ mirrored_point (point_at ps v)
unfolding point_at
point_mirrored n ps ps' v h o = rw (o.x v h, o.y v h, o.z v h)

opposite_points : (n : ℕ) (ps ps' : List ℤ) → length ps' ≡ length ps → ((v : ℕ) → v < n → point_at ps' v ≡ mirrored_point (point_at ps v))
    → Opposite n ps ps'
unfolding point_at
opposite_points n ps ps' long each = record {
  long = long;
  x = λ v h. ap (λ (q : Point). q.x) (each v h);
  y = λ v h. ap (λ (q : Point). q.y) (each v h);
  z = λ v h. ap (λ (q : Point). q.z) (each v h);
}

-- they stay opposite where v's is set on both sides
placed_opposite : (n : ℕ) (ps ps' : List ℤ) (v : ℕ) (p : Point) → v * 3 + 3 ≤ length ps → Opposite n ps ps'
    → Opposite n (placed ps v p) (placed ps' v (mirrored_point p))
placed_opposite n ps ps' v p room o =
    let room' : v * 3 + 3 ≤ length ps' = (let e = o.long in omega arith) in
    let q : Point = mirrored_point p in
    opposite_points n (placed ps v p) (placed ps' v q) (length_placed ps' v q room' ∙ o.long ∙ sym (length_placed ps v p room))
    (λ u h.
    ⊎_elim
    (λ e.
    subst (λ w. point_at (placed ps' v q) w ≡ mirrored_point (point_at (placed ps v p) w)) e.1
    (point_same ps' v q room' ∙ ap mirrored_point (sym (point_same ps v p room))))
    (λ e.
    point_other ps' v q room' u e.1 ∙ point_mirrored n ps ps' u h o ∙ ap mirrored_point (sym (point_other ps v p room u e.1)))
    (eq_split v u))

-- ---- the moves in order

-- both lists so far are carried out and leave opposite points, or both are refused for the same reason at the same place
pub data Alike (n : ℕ) : Pending → Pending → Type 0 where
  both : (ps ps' : List ℤ) → n * 3 ≤ length ps → Opposite n ps ps' → Alike n (pending ps) (pending ps')
  refused : (r : Refusal) → Alike n (stopped r) (stopped r)

settle_mirrored : (n : ℕ) (ps ps' : List ℤ) (v i : ℕ) (m : Result Point Unmoved) → v < n → n * 3 ≤ length ps → Opposite n ps ps'
    → Alike n (settle ps v i m) (settle ps' v i (mirrored_moved m))
settle_mirrored n ps ps' v i (Ok p) h room o =
    let r : v * 3 + 3 ≤ length ps = omega arith in
    both (placed ps v p) (placed ps' v (mirrored_point p)) (let l = length_placed ps v p r in omega arith) (placed_opposite n ps ps' v p r o)
settle_mirrored n ps ps' v i (Err NotFinite) h room o = refused (refusal.NotFinite i)
settle_mirrored n ps ps' v i (Err OutOfReach) h room o = refused (refusal.OutOfReach i)

step_mirrored : (n : ℕ) (s s' : Pending) (m : Move) (i : ℕ) → Alike n s s' → Alike n (step n s m i) (step n s' (mirrored_move m) i)
unfolding step
step_mirrored n _ _ m i (refused r) = refused r
step_mirrored n _ _ m i (both ps ps' room o) =
    ⊎_elim
    (λ l. rw l.0 (refused (refusal.NoSuchVertex i)))
    (λ l.
    rw (l.0, point_mirrored n ps ps' m.vertex l.1 o, mirrored_move_lem (point_at ps m.vertex) m.change)
    (settle_mirrored n ps ps' m.vertex i (moved_to (mm_of (point_at ps m.vertex)) m.change) l.1 room o))
    (le_split n m.vertex)

pub run_mirrored : (n : ℕ) (ms : List Move) (i : ℕ) (s s' : Pending) → Alike n s s' → Alike n (run n ms i s) (run n (mirrored_list ms) i s')
run_mirrored n [] i s s' a = a
run_mirrored n (m ∷ ms) i s s' a = run_mirrored n ms (suc i) (step n s m i) (step n s' (mirrored_move m) i) (step_mirrored n s s' m i a)

-- what both answer, and the control points both leave
pub alike_verdict : (n : ℕ) (s s' : Pending) → Alike n s s' → pending_verdict s' ≡ pending_verdict s
alike_verdict n _ _ (both ps ps' room o) = refl
alike_verdict n _ _ (refused r) = refl

pub alike_points : (n : ℕ) (s s' : Pending) (ps ps' : List ℤ) → Alike n s s' → Opposite n ps ps'
    → Opposite n (pending_points s ps) (pending_points s' ps')
alike_points n _ _ ps ps' (both qs qs' room o) p = o
alike_points n _ _ ps ps' (refused r) p = p
