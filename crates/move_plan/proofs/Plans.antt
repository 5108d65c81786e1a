-- Plans of moves, one move at a time: where a vertex is after the entries so far, and what a step gives in each of its cases.
-- Assumes nothing.
use mathlib.Core.Path.{◌≡◌, refl, sym, ap, ◌∙◌}
use mathlib.Core.Bool.{Bool, true, false, cond}
use mathlib.Core.List.{List, [], ◌∷◌, ◌++◌}
use Prim.Native.Nat.{ℕ, ◌+◌, ◌<◌, ◌≤◌}
use native.Mathlib.Numerals.{add-one}
use native.Mathlib.Omega.{arith}
use borrow.Author.Tests.{le-leb, lt-leb, eq-eqb, ne_eqb}
use lib.Dec.{eqb}
use lib.IntN.{ℤ}
use lib.ListN.{length, take, get_or}
use lib.Seq.{take-suc}
use Rattle.units.specs.Coordinate.{beyond}
use Rattle.millimetres.specs.Millimetres.{mm_of}
use Rattle.millimetres.specs.Move.{moved_to}
use Rattle.millimetres.specs.declared.Mm.{Mm}
use Rattle.millimetres.specs.declared.Unmoved.{Unmoved}
use Rattle.units.specs.declared.Point.{Point}
use Rattle.rings.specs.Verdict.{after}
use Rattle.rings.specs.declared.Refusal.{Refusal}
use Rattle.rings.specs.declared.Refusal.TheVariants as refusal
use Rattle.rings.proofs.Checks.{within}
use Rattle.move_plan.specs.Plan.{Near, origin, planned, read_point, kept_point, latest_point, current_point, noted_in, refused_in, result_in, taken_in, step_of}
use Rattle.move_plan.specs.declared.Move.{Move}
use Rattle.move_plan.specs.declared.Entry.{Entry}
use Rattle.move_plan.specs.declared.Plan.{Plan}
use Rattle.std.specs.Prelude.{Result, Ok, Err}

pub latest_append : (es : List Entry) (e : Entry) (v : ℕ) (p : Point) → latest_point (es ++ (e ∷ [])) v p ≡ cond (eqb e.vertex v) e.point (latest_point es v p)
unfolding latest_point
latest_append [] e v p = refl
latest_append (a ∷ es) e v p = latest_append es e v (cond (eqb a.vertex v) a.point p)

-- one entry more, with v's vertex or another
module _ (es : List Entry) (k v : ℕ) (p q : Point) (d : Entry) (h : k < length es) (so : q ≡ latest_point (take k es) v p) where
  latest_more : latest_point (take (k + 1) es) v p ≡ cond (eqb (get_or es k d).vertex v) (get_or es k d).point q
  latest_more = rw (add-one, take-suc es k d h, latest_append, so)

  pub latest_hit : (get_or es k d).vertex ≡ v → (get_or es k d).point ≡ latest_point (take (k + 1) es) v p
  latest_hit e = sym (latest_more ∙ ap (λ (b : Bool). cond b (get_or es k d).point q) (eq-eqb _ _ e))

  pub latest_miss : ((get_or es k d).vertex ≡ v → ⊥) → q ≡ latest_point (take (k + 1) es) v p
  latest_miss e = sym (latest_more ∙ ap (λ (b : Bool). cond b (get_or es k d).point q) (ne_eqb _ _ e))

-- a point that is kept, by its coordinates
module _ (p : Point) where
  pub kept_x : true ≡ beyond p.x → origin ≡ kept_point p
  unfolding kept_point
  kept_x a = rw (← a)

  pub kept_y : false ≡ beyond p.x → true ≡ beyond p.y → origin ≡ kept_point p
  unfolding kept_point
  kept_y a b = rw (← a, ← b)

  pub kept_z : false ≡ beyond p.x → false ≡ beyond p.y → true ≡ beyond p.z → origin ≡ kept_point p
  unfolding kept_point
  kept_z a b c = rw (← a, ← b, ← c)

  pub kept_self : false ≡ beyond p.x → false ≡ beyond p.y → false ≡ beyond p.z → p ≡ kept_point p
  unfolding kept_point
  kept_self a b c = rw (← a, ← b, ← c)

-- a point that is kept is in the range
near_origin : Near origin
near_origin = record { x = omega arith; y = omega arith; z = omega arith }

kept_by : (p : Point) (a b c : Bool) → a ≡ beyond p.x → b ≡ beyond p.y → c ≡ beyond p.z → Near (kept_point p)
kept_by p true b c ea eb ec = rw (← kept_x p ea) near_origin
kept_by p false true c ea eb ec = rw (← kept_y p ea eb) near_origin
kept_by p false false true ea eb ec = rw (← kept_z p ea eb ec) near_origin
kept_by p false false false ea eb ec = rw (← kept_self p ea eb ec) (record { x = within p.x (sym ea); y = within p.y (sym eb); z = within p.z (sym ec) })

pub kept_near : (p q : Point) → q ≡ kept_point p → Near q
kept_near p q e = rw e (kept_by p (beyond p.x) (beyond p.y) (beyond p.z) refl refl refl)

-- a move of a vertex of the mesh that gives a point
module _ (ps : List ℤ) (s : Plan) (m : Move) (a b p : Point) (mm : Mm) (r : Result Point Unmoved) (ea : a ≡ read_point ps m.vertex)
    (eb : b ≡ latest_point (take s.taken s.entries) m.vertex a) (ep : p ≡ kept_point b) (em : mm ≡ mm_of p) (er : r ≡ moved_to mm m.change) (t : Plan) where
  gives : r ≡ moved_to (mm_of (current_point ps s m.vertex)) m.change
  unfolding current_point planned
  gives = rw (er, em, ep, eb, ea)

  pub taken_at_lem : (q : Point) → r ≡ Ok q → t ≡ noted_in s m.vertex q → t ≡ taken_in ps s m
  unfolding taken_in
  taken_at_lem q e h = h ∙ ap (result_in s m.vertex) (sym e ∙ gives)

-- a step, by its cases
module _ (ps : List ℤ) (s : Plan) (m : Move) where
  pub step_refused : (r : Refusal) → s.verdict ≡ Err r → s ≡ step_of ps s m
  unfolding step_of after
  step_refused r e = rw e

  module _ (e : s.verdict ≡ (Ok tt)) where
    pub step_full : 64 ≤ s.taken → s ≡ step_of ps s m
    unfolding step_of after
    step_full h = rw (e, le-leb 64 s.taken h)

    module _ (h : s.taken < 64) (t : Plan) where
      pub step_unknown : s.count ≤ m.vertex → t ≡ refused_in s (refusal.NoSuchVertex s.taken) → t ≡ step_of ps s m
      unfolding step_of after
      step_unknown l q = q ∙ rw (e, lt-leb 64 s.taken h, le-leb s.count m.vertex l)

      pub step_taken : m.vertex < s.count → t ≡ taken_in ps s m → t ≡ step_of ps s m
      unfolding step_of after
      step_taken l q = q ∙ rw (e, lt-leb 64 s.taken h, lt-leb s.count m.vertex l)
