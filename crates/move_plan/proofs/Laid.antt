-- Entries laid over the positions: what each of them changes, and where a vertex then is.
-- Assumes nothing.
use mathlib.Core.Path.{◌≡◌, refl, sym, ap, ◌∙◌}
use mathlib.Core.Bool.{Bool, true, false, cond, ◌||◌}
use mathlib.Core.List.{List, [], ◌∷◌, ◌++◌}
use mathlib.Core.Logic.{⊎_elim, ◌≢◌}
use Prim.Native.Nat.{ℕ, zero, suc, ◌+◌, ◌*◌, ◌≤◌, ◌<◌}
use native.Mathlib.Nat.{not-suc-le-zero, le_of_suc-le-suc}
use native.Mathlib.Omega.{arith}
use lib.Dec.{eqb}
use lib.IntN.{ℤ, pos}
use lib.ListN.{length, get_or, take}
use Rattle.mesh.proofs.Lists.{eq_split, lt_split}
use Rattle.units.specs.Coordinate.{InRange}
use Rattle.units.specs.declared.Point.{Point}
use Rattle.millimetres.proofs.MoveCases.{point_is}
use Rattle.rings.specs.Table.{coordinate_at, point_at}
use Rattle.rings.proofs.Tables.{length_put, put_within, put_before, put_behind}
use Rattle.move_plan.specs.Moves.{placed}
use Rattle.move_plan.specs.Plan.{Near, named_in, laid, latest_point}
use Rattle.move_plan.specs.declared.Entry.{Entry}

-- ---- one point

-- a point is in the range where its three coordinates are
module _ (ps : List ℤ) (v : ℕ) where
  pub point_near : ((axis : ℕ) → axis < 3 → InRange (coordinate_at ps axis v)) → Near (point_at ps v)
  unfolding point_at
  point_near near = record { x = near 0 (omega arith); y = near 1 (omega arith); z = near 2 (omega arith) }

  pub near_at : (axis : ℕ) → axis < 3 → Near (point_at ps v) → InRange (coordinate_at ps axis v)
  unfolding point_at
  near_at zero h n = n.x
  near_at (suc zero) h n = n.y
  near_at (suc (suc zero)) h n = n.z
  near_at (suc (suc (suc k))) h n = absurd (omega arith)

module _ (ps : List ℤ) (u : ℕ) (p : Point) (fits : u * 3 + 3 ≤ length ps) where
  pub length_placed : length (placed ps u p) ≡ length ps
  unfolding placed
  length_placed = length_put ps (u * 3) (p.x ∷ p.y ∷ p.z ∷ []) fits

  pub point_same : point_at (placed ps u p) u ≡ p
  unfolding placed point_at coordinate_at
  point_same =
      point_is _ _ _ _ _ _
      (put_within ps (u * 3) (p.x ∷ p.y ∷ p.z ∷ []) fits (pos 0) 0 (omega arith))
      (put_within ps (u * 3) (p.x ∷ p.y ∷ p.z ∷ []) fits (pos 0) 1 (omega arith))
      (put_within ps (u * 3) (p.x ∷ p.y ∷ p.z ∷ []) fits (pos 0) 2 (omega arith))

  module _ (v : ℕ) (other : u ≢ v) where
    coordinate_other : (axis : ℕ) → axis < 3 → coordinate_at (placed ps u p) axis v ≡ coordinate_at ps axis v
    unfolding placed coordinate_at
    coordinate_other axis a = ⊎_elim
        (λ h. put_before ps (u * 3) (p.x ∷ p.y ∷ p.z ∷ []) fits (pos 0) (v * 3 + axis) (omega (arith, h.1)))
        (λ h. put_behind ps (u * 3) (p.x ∷ p.y ∷ p.z ∷ []) fits (pos 0) (v * 3 + axis) (omega (arith, h.1, other)))
        (lt_split v u)

    pub point_other : point_at (placed ps u p) v ≡ point_at ps v
    unfolding point_at
    point_other = point_is _ _ _ _ _ _ (coordinate_other 0 (omega arith)) (coordinate_other 1 (omega arith)) (coordinate_other 2 (omega arith))

  point_placed : (v : ℕ) → cond (eqb u v) p (point_at ps v) ≡ point_at (placed ps u p) v
  point_placed v = ⊎_elim
      (λ h. ap (λ (b : Bool). cond b p (point_at ps v)) h.0 ∙ sym point_same ∙ ap (point_at (placed ps u p)) h.1)
      (λ h. ap (λ (b : Bool). cond b p (point_at ps v)) h.0 ∙ sym (point_other v h.1))
      (eq_split u v)

-- ---- all entries

-- something holds of each entry
abbrev pub Each : (Entry → Type 0) → List Entry → Type 0
Each P [] = Unit {0}
Each P (e ∷ es) = P e × Each P es

pub each_take : (P : Entry → Type 0) (es : List Entry) (j : ℕ) → j ≤ length es → ((k : ℕ) → k < j → (d : Entry) → P (get_or es k d)) → Each P (take j es)
each_take P [] zero h all = tt
each_take P [] (suc j) h all = absurd (not-suc-le-zero h)
each_take P (e ∷ es) zero h all = tt
each_take P (e ∷ es) (suc j) h all = (all 0 (omega arith) e, each_take P es j (le_of_suc-le-suc h) (λ k l d. all (suc k) (omega arith) d))

-- an entry of one of n vertices
abbrev pub Low : ℕ → Entry → Type 0
Low n e = e.vertex < n

abbrev pub NearEntry : Entry → Type 0
NearEntry e = Near e.point

pub length_laid : (n : ℕ) (es : List Entry) (ps : List ℤ) → n * 3 ≤ length ps → Each (Low n) es → length (laid ps es) ≡ length ps
length_laid n [] ps h low = refl
length_laid n (e ∷ es) ps h low =
    let fits : e.vertex * 3 + 3 ≤ length ps = omega (arith, low.0) in
    let l = length_placed ps e.vertex e.point fits in
    length_laid n es (placed ps e.vertex e.point) (omega arith) low.1 ∙ l

pub laid_append : (ps : List ℤ) (es : List Entry) (e : Entry) → laid ps (es ++ (e ∷ [])) ≡ placed (laid ps es) e.vertex e.point
laid_append ps [] e = refl
laid_append ps (a ∷ es) e = laid_append (placed ps a.vertex a.point) es e

-- a vertex is where its latest entry has it
pub latest_laid : (n : ℕ) (es : List Entry) (ps : List ℤ) → n * 3 ≤ length ps → Each (Low n) es → (v : ℕ) → latest_point es v (point_at ps v) ≡ point_at (laid ps es) v
unfolding latest_point
latest_laid n [] ps h low v = refl
latest_laid n (e ∷ es) ps h low v =
    let fits : e.vertex * 3 + 3 ≤ length ps = omega (arith, low.0) in
    let l = length_placed ps e.vertex e.point fits in
    ap (latest_point es v) (point_placed ps e.vertex e.point fits v) ∙ latest_laid n es (placed ps e.vertex e.point) (omega arith) low.1 v

pick_near : (b : Bool) (p q : Point) → Near p → Near q → Near (cond b p q)
pick_near true p q a c = a
pick_near false p q a c = c

pub latest_near : (es : List Entry) → Each NearEntry es → (v : ℕ) (p : Point) → Near p → Near (latest_point es v p)
unfolding latest_point
latest_near [] all v p a = a
latest_near (e ∷ es) all v p a = latest_near es all.1 v (cond (eqb e.vertex v) e.point p) (pick_near (eqb e.vertex v) e.point p all.0 a)

pub or_assoc : (a b c : Bool) → (a || b) || c ≡ a || (b || c)
or_assoc true b c = refl
or_assoc false b c = refl

pub or_none : (a : Bool) → a || false ≡ a
or_none true = refl
or_none false = refl

pub named_append : (es : List Entry) (e : Entry) (v : ℕ) → named_in (es ++ (e ∷ [])) v ≡ named_in es v || eqb e.vertex v
named_append [] e v = or_none (eqb e.vertex v)
named_append (a ∷ es) e v = ap (λ (b : Bool). eqb a.vertex v || b) (named_append es e v) ∙ sym (or_assoc (eqb a.vertex v) (named_in es v) (eqb e.vertex v))
