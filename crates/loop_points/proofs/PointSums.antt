-- Points of the next level: the sums over a ring, the coordinates that the code reads, and what the two formulas give. Assumes nothing.
use Prim.Native.Nat.{ℕ, ◌+◌, ◌*◌, ◌≤◌, ◌<◌}
use mathlib.Core.Path.{◌≡◌, refl, sym, ap, ap₂, subst, ◌∙◌}
use mathlib.Core.List.{List, [], ◌∷◌, ◌++◌, append_assoc}
use native.Mathlib.Nat.{add-zero}
use native.Mathlib.Numerals.{add-one, add-two}
use native.Mathlib.Omega.{arith}
use lib.IntN.{ℤ, pos, sub_ℕ, ◌+ℤ◌, +ℤ_assoc, +ℤ_idl, +ℤ_idr}
use lib.ListN.{length, get_or, take, drop, set}
use lib.Seq.{take-suc, length-take-le, sets-eq}
use mir.Syntax.{w32}
use mir.Val.{to_z, of_z}
use Rattle.mesh.specs.Limits.{most_units}
use Rattle.mesh.specs.Ring.{place_after, place_before}
use Rattle.steps.specs.Round.{Is}
use Rattle.steps.specs.Mask.{Mask, by_mask}
use Rattle.steps.proofs.Ints.{plus}
use Rattle.loop_step.specs.Loop.{edge_mask, vertex_mask}
use Rattle.units.specs.Coordinate.{InRange, Biased, offset}
use Rattle.units.specs.Points.{edge_point, vertex_point, ring_sum}
use Rattle.units.specs.declared.Point.{Point}
use Rattle.units.proofs.Coordinates.{from, handed, there}
use Rattle.units.proofs.Masks.{edge_mask_lem, vertex_mask_lem}
use Rattle.rings.specs.Table.{Lent, valence_at, put, ring_of, rows, coordinate_at, point_at}
use Rattle.rings.proofs.Rows.{rows_ring}
use Rattle.loop_points.specs.Level.{Ready, Near, AllBelow, SumOf, point_by, edge_point_by, coordinates}
use Rattle.loop_points.proofs.Mids.{ready_length, neighbour_lt, after_place, before_place}

-- ---- sums

sum_append : (at : ℕ → ℤ) (l : List ℕ) (a : ℕ) → ring_sum at (l ++ (a ∷ [])) ≡ ring_sum at l +ℤ at a
sum_append at [] a = +ℤ_idr (at a) ∙ sym (+ℤ_idl (at a))
sum_append at (x ∷ l) a = ap (λ (z : ℤ). at x +ℤ z) (sum_append at l a) ∙ sym (+ℤ_assoc (at x) (ring_sum at l) (at a))

module _ (at : ℕ → ℤ) (ring : List ℕ) where
  -- one vertex more
  sum_more : (i s u : ℕ) → i < length ring → SumOf (take i ring) at s → Is (at (get_or ring i 0)) u most_units → u ≤ (2 * most_units) → SumOf (take (i + 1) ring) at (s + u)
  sum_more i s u h w b l =
      let a : length (take i ring) ≡ i = length-take-le i ring (omega arith) in
      let c : length (take (i + 1) ring) ≡ i + 1 = length-take-le (i + 1) ring (omega arith) in
      let e : take (i + 1) ring ≡ take i ring ++ (get_or ring i 0 ∷ []) = ap (λ (k : ℕ). take k ring) (add-one i) ∙ take-suc ring i 0 h in
      let p : Is (ring_sum at (take i ring) +ℤ at (get_or ring i 0)) (s + u) (length (take i ring) * most_units + most_units) = plus w.sum b in
      let m : length (take i ring) * most_units + most_units ≡ length (take (i + 1) ring) * most_units = omega arith in
      let k : s ≤ length (take i ring) * (2 * most_units) = w.small in
      record { sum = record { is = ap (ring_sum at) e ∙ sum_append at (take i ring) (get_or ring i 0) ∙ p.is ∙ ap (sub_ℕ (s + u)) m }; small = omega arith }

-- ---- coordinates as the code reads them

-- z is what `at` has of v, and in range
pub record Read (at : ℕ → ℤ) (v : ℕ) (z : ℤ) : Type 0 where
  pub is : z ≡ at v
  pub near : InRange z

module _ {n : ℕ} {ps : List ℤ} (near : Near n ps) {v : ℕ} (l : v < n) where
  pub read_x : Read (coordinate_at ps 0) v (get_or ps (v * 3) (pos 0))
  unfolding coordinate_at
  read_x =
      let e : get_or ps (v * 3) (pos 0) ≡ get_or ps (v * 3 + 0) (pos 0) = ap (λ (k : ℕ). get_or ps k (pos 0)) (sym (add-zero (v * 3))) in
      record { is = e; near = subst InRange (sym e) (near.near v l 0 (omega arith)) }

  pub read_y : Read (coordinate_at ps 1) v (get_or ps (v * 3 + 1) (pos 0))
  unfolding coordinate_at
  read_y = record { is = refl; near = near.near v l 1 (omega arith) }

  pub read_z : Read (coordinate_at ps 2) v (get_or ps (v * 3 + 2) (pos 0))
  unfolding coordinate_at
  read_z = record { is = refl; near = near.near v l 2 (omega arith) }

  -- a coordinate of v's point, where the point was read before
  here_at : (part : Point → ℤ) (axis : ℕ) → axis < 3 → {here : Point} → here ≡ point_at ps v → part (point_at ps v) ≡ coordinate_at ps axis v
      → Read (coordinate_at ps axis) v (part here)
  here_at part axis a e f = let g = ap part e ∙ f in record { is = g; near = subst InRange (sym g) (near.near v l axis a) }

  pub here_x : {here : Point} → here ≡ point_at ps v → Read (coordinate_at ps 0) v here.x
  unfolding point_at
  here_x e = here_at (λ (p : Point). p.x) 0 (omega arith) e refl

  pub here_y : {here : Point} → here ≡ point_at ps v → Read (coordinate_at ps 1) v here.y
  unfolding point_at
  here_y e = here_at (λ (p : Point). p.y) 1 (omega arith) e refl

  pub here_z : {here : Point} → here ≡ point_at ps v → Read (coordinate_at ps 2) v here.z
  unfolding point_at
  here_z e = here_at (λ (p : Point). p.z) 2 (omega arith) e refl

-- as a call is handed it
module _ {at : ℕ → ℤ} {v : ℕ} {z : ℤ} (r : Read at v z) where
  pub read_in : InRange (to_z w32 (of_z w32 z))
  read_in = handed z r.near

  read_back_lem : to_z w32 (of_z w32 z) ≡ at v
  read_back_lem = there z r.near ∙ r.is

-- what a call of `biased` adds to a sum
pub sum_step : {at : ℕ → ℤ} {z : ℤ} {u : ℕ} (ring : List ℕ) (i s : ℕ) → i < length ring → SumOf (take i ring) at s → Read at (get_or ring i 0) z → Biased offset (to_z w32 (of_z w32 z)) u → SumOf (take (i + 1) ring) at (s + u)
sum_step {at} {z} {u} ring i s h w r b = sum_more at ring i s u h w (record { is = sym r.is ∙ (from z r.near b).is }) b.small

-- ---- what the calls of the two formulas give

module _ {at : ℕ → ℤ} where
  pub edge_coordinate : {p q a b : ℕ} {x y z w r : ℤ} → Read at p x → Read at q y → Read at a z → Read at b w
      → (r ≡ edge_point (to_z w32 (of_z w32 x)) (to_z w32 (of_z w32 y)) (to_z w32 (of_z w32 z)) (to_z w32 (of_z w32 w))) × InRange r
      → (to_z w32 (of_z w32 r) ≡ by_mask (edge_mask p q a b) at) × InRange (to_z w32 (of_z w32 r))
  edge_coordinate {p} {q} {a} {b} {x} {y} {z} {w} {r} rp rq ra rb h =
      (there r h.1 ∙ h.0 ∙ rw (read_back_lem rp, read_back_lem rq, read_back_lem ra, read_back_lem rb) (sym (edge_mask_lem p q a b at)), handed r h.1)

  pub vertex_coordinate : {v n s : ℕ} {ring : List ℕ} {x r : ℤ} → Read at v x → n ≡ length ring → SumOf ring at s
      → (r ≡ vertex_point n (to_z w32 (of_z w32 x)) (sub_ℕ s (n * most_units))) × InRange r
      → (to_z w32 (of_z w32 r) ≡ by_mask (vertex_mask v ring) at) × InRange (to_z w32 (of_z w32 r))
  vertex_coordinate {v} {n} {s} {ring} {x} {r} rv e w h =
      (there r h.1 ∙ h.0 ∙ rw (read_back_lem rv, e, ← w.sum.is) (sym (vertex_mask_lem v ring at)), handed r h.1)

pub point_by_lem : (μ : Mask) (ps : List ℤ) (x y z : ℤ) → x ≡ by_mask μ (coordinate_at ps 0) → y ≡ by_mask μ (coordinate_at ps 1) → z ≡ by_mask μ (coordinate_at ps 2)
    → ◌≡◌ {A = Point} (record { x = x; y = y; z = z }) (point_by μ ps)
unfolding point_by
point_by_lem μ ps x y z a b c = rw (a, b, c)

-- what a call of the vertex formula asks
pub vertex_fits : {at : ℕ → ℤ} {v s : ℕ} {x : ℤ} (ring : List ℕ) → 3 ≤ length ring → length ring ≤ 32 → Read at v x → SumOf ring at s
    → (3 ≤ length ring) × ((length ring ≤ 32) × (InRange (to_z w32 (of_z w32 x)) × (s ≤ length ring * (2 * most_units))))
vertex_fits ring l m a w = (l, (m, (read_in a, w.small)))

-- ---- a ring of tables that are ready

pub ready_least : {n : ℕ} {t : Lent} (r : Ready n t) {v : ℕ} → v < n → 3 ≤ valence_at t v
unfolding rows
ready_least {n} {t} r {v} l = subst (λ (k : ℕ). 3 ≤ k) (ap length (rows_ring n t v l) ∙ ready_length r l) (r.sound.three v l)

module _ {n : ℕ} {t : Lent} (r : Ready n t) {p : ℕ} (h : p < n) (ring : List ℕ) (e : ring ≡ ring_of t p) where
  ring_places : length ring ≡ valence_at t p
  ring_places = ap length e ∙ ready_length r h

  pub ring_below : (i : ℕ) → i < length ring → get_or ring i 0 < n
  ring_below i l = neighbour_lt r p i h (let k = ring_places in omega arith) (get_or ring i 0) (ap (λ (table : List ℕ). get_or table i 0) e)

  pub ring_all_below : AllBelow n ring
  ring_all_below = record { below = ring_below }

  pub new_point_is : (ps : List ℤ) (i j k : ℕ) → i < length ring → j ≡ place_after (length ring) i → k ≡ place_before (length ring) i
      → point_by (edge_mask p (get_or ring i 0) (get_or ring j 0) (get_or ring k 0)) ps ≡ edge_point_by (ring_of t p) ps p (get_or (ring_of t p) i 0)
  unfolding edge_point_by
  new_point_is ps i j k l a b =
      let m : i < valence_at t p = let c = ring_places in omega arith in
      rw e (ap₂ (λ (x y : ℕ). point_by (edge_mask p (get_or (ring_of t p) i 0) x y) ps) (after_place r p i h m j (rw ring_places at a)) (before_place r p i h m k (rw ring_places at b)))

-- ---- a point written

pub put_point : (table : List ℤ) (a : ℕ) (p : Point) → a + 3 ≤ length table → to_z w32 (of_z w32 p.x) ≡ p.x → to_z w32 (of_z w32 p.y) ≡ p.y → to_z w32 (of_z w32 p.z) ≡ p.z
    → set (set (set table a (to_z w32 (of_z w32 p.x))) (a + 1) (to_z w32 (of_z w32 p.y))) (a + 2) (to_z w32 (of_z w32 p.z)) ≡ put table a (coordinates p)
unfolding put
put_point table a p h ex ey ez = rw (ex, ey, ez, add-one a, add-two a) (sets-eq (p.x ∷ p.y ∷ p.z ∷ []) table a h ∙ append_assoc (take a table) (p.x ∷ p.y ∷ p.z ∷ []) (drop (a + 3) table))
