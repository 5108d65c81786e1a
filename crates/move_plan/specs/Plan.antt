-- To be believed.
-- How a list of moves is worked out before anything is written: a plan by value, and one move after the other. Section "Moves", reasons 3, 13 and 14.
-- What it means for the control points stands in `Moves`; a law ties the two for positions that the check accepts.
-- Assumes nothing.
use Rattle.std.specs.Prelude.{Bool, true, false, cond, ◌||◌, ◌≡◌, List, [], ◌∷◌, ℕ, ◌+◌, ◌*◌, ◌≤◌, ◌<◌, leb, ltb, eqb, ℤ, pos, length, get_or, take, set, replicate, Result, Ok, Err}
use Rattle.mesh.specs.Limits.{most_moves}
use Rattle.units.specs.Coordinate.{InRange, beyond}
use Rattle.millimetres.specs.Millimetres.{mm_of}
use Rattle.millimetres.specs.Move.{moved_to}
use Rattle.units.specs.declared.Point.{Point}
use Rattle.millimetres.specs.declared.Unmoved.{Unmoved}
use Rattle.millimetres.specs.declared.Unmoved.TheVariants.{NotFinite, OutOfReach}
use Rattle.rings.specs.Table.{point_at}
use Rattle.rings.specs.Verdict.{after}
use Rattle.rings.specs.declared.Refusal.{Refusal}
use Rattle.rings.specs.declared.Refusal.TheVariants as refusal
use Rattle.move_plan.specs.Moves.{placed}
use Rattle.move_plan.specs.declared.Move.{Move}
use Rattle.move_plan.specs.declared.Entry.{Entry}
use Rattle.move_plan.specs.declared.Plan.{Plan}
use Rattle.rings.specs.Refusal.{Verdict}

-- the point that stands in for one that cannot be read
abbrev pub origin : Point
origin = record { x = pos 0; y = pos 0; z = pos 0 }

-- what stands in a plan where no move was taken yet
abbrev pub blank : Entry
blank = record { vertex = 0; point = origin }

-- the plan before the first move, for n control vertices, with what was judged before it
unfoldable pub opened_plan : ℕ → Verdict → Plan
opened_plan n r = record { count = n; verdict = r; taken = 0; entries = replicate most_moves blank }

-- the entries of the moves that were taken
unfoldable pub planned : Plan → List Entry
planned s = take s.taken s.entries

-- the vertices that some entries name
abbrev pub named_in : List Entry → ℕ → Bool
named_in [] v = false
named_in (e ∷ es) v = eqb e.vertex v || named_in es v

-- a set with these vertices in it
unfoldable pub with_named : (ℕ → Bool) → List Entry → ℕ → Bool
with_named set es v = named_in es v || set v

-- the positions with the entries' points set, one after the other
abbrev pub laid : List ℤ → List Entry → List ℤ
laid ps [] = ps
laid ps (e ∷ es) = laid (placed ps e.vertex e.point) es

-- the three coordinates of a point are in the range
pub record Near (p : Point) : Type 0 where
  pub x : InRange p.x
  pub y : InRange p.y
  pub z : InRange p.z

-- a plan that can be carried out: at most 64 entries, of control vertices, with points in the range
pub record Fair (s : Plan) : Type 0 where
  pub size : length s.entries ≡ most_moves
  pub few : s.taken ≤ most_moves
  pub below : (k : ℕ) → k < s.taken → (d : Entry) → (get_or s.entries k d).vertex < s.count
  pub near : (k : ℕ) → k < s.taken → (d : Entry) → Near (get_or s.entries k d).point

-- v's point in the table, or the origin where the table ends before it
unfoldable pub read_point : List ℤ → ℕ → Point
read_point ps v = cond (ltb (v * 3 + 2) (length ps)) (point_at ps v) origin

-- the point itself where its coordinates are in the range, else the origin
unfoldable pub kept_point : Point → Point
kept_point p = cond (beyond p.x || (beyond p.y || beyond p.z)) origin p

-- where v is after some entries: at the point of its latest one, or where it was
unfoldable pub latest_point : List Entry → ℕ → Point → Point
latest_point [] v p = p
latest_point (e ∷ es) v p = latest_point es v (cond (eqb e.vertex v) e.point p)

-- where the next move of v starts
unfoldable pub current_point : List ℤ → Plan → ℕ → Point
current_point ps s v = kept_point (latest_point (planned s) v (read_point ps v))

-- the plan with an entry more
unfoldable pub noted_in : Plan → ℕ → Point → Plan
noted_in s v p = record { count = s.count; verdict = (Ok tt); taken = s.taken + 1; entries = set s.entries s.taken (record { vertex = v; point = p }) }

-- the plan, refused
unfoldable pub refused_in : Plan → Refusal → Plan
refused_in s r = record { count = s.count; verdict = Err r; taken = s.taken; entries = s.entries }

-- the plan after a move that gives this
abbrev pub result_in : Plan → ℕ → Result Point Unmoved → Plan
result_in s v (Ok p) = noted_in s v p
result_in s v (Err NotFinite) = refused_in s (refusal.NotFinite s.taken)
result_in s v (Err OutOfReach) = refused_in s (refusal.OutOfReach s.taken)

-- 13, 14, or an entry
unfoldable pub taken_in : List ℤ → Plan → Move → Plan
taken_in ps s m = result_in s m.vertex (moved_to (mm_of (current_point ps s m.vertex)) m.change)

-- one move: 3, 13, 14, or an entry; nothing once a move was refused or the plan is full
unfoldable pub step_of : List ℤ → Plan → Move → Plan
step_of ps s m =
    after s.verdict
    (cond (leb most_moves s.taken) s
    (cond (leb s.count m.vertex) (refused_in s (refusal.NoSuchVertex s.taken))
    (taken_in ps s m)))
    s

-- how far a list of so many moves is looked at, by the plan reached: no further once it is refused, and to the 64th move at most
unfoldable pub ahead_of : Plan → ℕ → ℕ
ahead_of s moves = after s.verdict (cond (ltb most_moves moves) most_moves moves) 0

-- no further move is looked at: one was refused, or the plan is full
unfoldable pub over : Plan → Bool
over s = after s.verdict (leb most_moves s.taken) true

-- the moves in order
unfoldable pub walk_of : List ℤ → List Move → Plan → Plan
walk_of ps [] s = s
walk_of ps (m ∷ ms) s = walk_of ps ms (step_of ps s m)
