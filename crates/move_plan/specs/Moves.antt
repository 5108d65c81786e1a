-- To be believed.
-- "They work in order; a vertex named twice starts its second move from the first's result, rounded to units." Nothing is written before the last move is accepted.
-- Assumes nothing.
use Rattle.std.specs.Prelude.{Bool, false, cond, ◌||◌, List, [], ◌∷◌, ℕ, suc, ◌*◌, leb, eqb, ℤ, Result, Ok, Err}
use Rattle.millimetres.specs.Millimetres.{mm_of}
use Rattle.millimetres.specs.Move.{moved_to}
use Rattle.units.specs.declared.Point.{Point}
use Rattle.millimetres.specs.declared.Unmoved.{Unmoved}
use Rattle.millimetres.specs.declared.Unmoved.TheVariants.{NotFinite, OutOfReach}
use Rattle.rings.specs.Table.{put, point_at}
use Rattle.rings.specs.declared.Refusal.{Refusal}
use Rattle.rings.specs.declared.Refusal.TheVariants as refusal
use Rattle.move_plan.specs.declared.Move.{Move}
use Rattle.rings.specs.Refusal.{Verdict}

-- the pending control points, or why a move was refused
pub data Pending : Type 0 where
  pending : List ℤ → Pending
  stopped : Refusal → Pending

-- the positions with v's point set
unfoldable pub placed : List ℤ → ℕ → Point → List ℤ
placed ps v p = put ps (v * 3) (p.x ∷ p.y ∷ p.z ∷ [])

-- what a move at list place i makes of them
abbrev pub settle : List ℤ → ℕ → ℕ → Result Point Unmoved → Pending
settle ps v i (Ok p) = pending (placed ps v p)
settle ps v i (Err NotFinite) = stopped (refusal.NotFinite i)
settle ps v i (Err OutOfReach) = stopped (refusal.OutOfReach i)

-- one move of a control mesh of n vertices: 3, 13, 14; none once a move was refused
unfoldable pub step : ℕ → Pending → Move → ℕ → Pending
step n (stopped r) m i = stopped r
step n (pending ps) m i = cond (leb n m.vertex) (stopped (refusal.NoSuchVertex i)) (settle ps m.vertex i (moved_to (mm_of (point_at ps m.vertex)) m.change))

-- the moves in order, the first of them at list place i
abbrev pub run : ℕ → List Move → ℕ → Pending → Pending
run n [] i s = s
run n (m ∷ ms) i s = run n ms (suc i) (step n s m i)

-- the vertices named, changed or not
abbrev pub named : List Move → ℕ → Bool
named [] v = false
named (m ∷ ms) v = eqb m.vertex v || named ms v

-- what a list of moves answers
abbrev pub pending_verdict : Pending → Verdict
pending_verdict (pending ps) = (Ok tt)
pending_verdict (stopped r) = Err r

-- the control points after it
abbrev pub pending_points : Pending → List ℤ → List ℤ
pending_points (pending ps) old = ps
pending_points (stopped r) old = old
