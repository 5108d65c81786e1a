-- The dependents of one vertex marked: itself, and then place by place of its ring. Assumes nothing.
use Prim.Native.Nat.{ℕ, ◌+◌, ◌≤◌, ◌<◌}
use mathlib.Core.Path.{◌≡◌, sym, ◌∙◌}
use mathlib.Core.Bool.{Bool}
use mathlib.Core.List.{List, [], ◌∷◌, ◌++◌, map}
use native.Mathlib.Numerals.{add-one}
use native.Mathlib.Omega.{arith}
use lib.ListN.{length, get_or, take}
use lib.Seq.{take-suc, take_all}
use Rattle.mesh.specs.Ring.{times, ◌∈◌}
use Rattle.mesh.specs.Mesh.{Mesh, edges}
use Rattle.mesh.proofs.Lists.{times_append}
use Rattle.mesh.proofs.Rings.{get_or_in}
use Rattle.loop_step.specs.Refine.{mid, old_ring}
use Rattle.loop_step.specs.Dependents.{opposite, dependents}
use Rattle.loop_step.proofs.DependentsAreTouched.{dependents_below, beside_depends, edge_depends, opposite_depends}
use Rattle.rings.specs.Table.{Lent, ring_of, rows}
use Rattle.rings.proofs.Rows.{rows_ring}
use Rattle.move_map.specs.Map.{including}
use Rattle.move_touched.specs.NextLevel.{joined, BothLevels, PlaceInMap, opposite_read, place_dependents}
use Rattle.move_touched.proofs.Touched.{in_map, in_map_long}
use Rattle.move_touched.proofs.Joined.{joined_join, including_is}
use Rattle.move_touched.proofs.Ends.{next_entry, opposite_is}

-- what depends on v by some of its neighbours
abbrev pub dependents_by : Mesh → ℕ → List ℕ → List ℕ
dependents_by M v l = l ++ (map (mid M v) l ++ map (opposite M v) l)

map_last : (f : ℕ → ℕ) (y : ℕ) (l : List ℕ) (u : ℕ) → times y (map f (l ++ (u ∷ []))) ≡ times y (map f l) + times y (f u ∷ [])
map_last f y [] u = omega arith
map_last f y (a ∷ l) u = omega (arith, map_last f y l u)

dependents_last : (M : Mesh) (v y : ℕ) (l : List ℕ) (u : ℕ)
    → times y (dependents_by M v (l ++ (u ∷ []))) ≡ times y (dependents_by M v l) + times y (u ∷ mid M v u ∷ opposite M v u ∷ [])
dependents_last M v y l u =
    let k : List ℕ = l ++ (u ∷ []) in
    omega (
      arith,
      times_append y k (map (mid M v) k ++ map (opposite M v) k),
      times_append y (map (mid M v) k) (map (opposite M v) k),
      times_append y l (map (mid M v) l ++ map (opposite M v) l),
      times_append y (map (mid M v) l) (map (opposite M v) l),
      times_append y l (u ∷ []),
      map_last (mid M v) y l u,
      map_last (opposite M v) y l u,
    )

module _ {base n : ℕ} {t : Lent} {before : List ℕ} (b : BothLevels base n t before) {v : ℕ} (h : v < n) where
  abbrev M : Mesh
  M = rows n t

  -- place i of the ring, where u stands, and x for the edge to u
  module _ {i : ℕ} (l : i < length (ring_of t v)) {u x : ℕ} (e : u ≡ get_or (ring_of t v) i 0) (f : x ≡ get_or (ring_of t (n + v)) i 0) where
    u_in : u ∈ M.ring v
    u_in = rw (rows_ring n t v h, e) (get_or_in (ring_of t v) i 0 l)

    x_is : x ≡ mid M v u
    x_is = rw (f, e) (next_entry b.ready b.rings v h i l)

    far_is : opposite_read t.rings n v u x ≡ opposite M v u
    far_is = rw x_is (opposite_is b.ready b.rings v h u u_in)

    -- what marking by this place asks
    pub place_ready : {map : List ℕ} → length map ≡ length before → PlaceInMap t.rings n v u x (base + n) map
    unfolding rows opposite
    place_ready q =
        let S = b.ready.sound in
        let c : u < n + edges M = dependents_below M S v u h (beside_depends M v u u_in) in
        let d : x < n + edges M = rw x_is (dependents_below M S v (mid M v u) h (edge_depends M v u u_in)) in
        let g : opposite_read t.rings n v u x < n + edges M = rw far_is (dependents_below M S v (opposite M v u) h (opposite_depends M v u u_in)) in
        let k = b.ready.room.rings in
        record {
          row = omega arith;
          neighbour = in_map_long (in_map _ b.numbers (omega arith)) q;
          edge = in_map_long (in_map _ b.numbers (omega arith)) q;
          far = in_map_long (in_map _ b.numbers (omega arith)) q;
        }

    -- one place more
    pub place_more : (set : ℕ → Bool) {after now : ℕ → Bool} → after ≡ joined set (base + n) (dependents_by M v (take i (ring_of t v)))
        → now ≡ joined after (base + n) (place_dependents t.rings n v u x) → now ≡ joined set (base + n) (dependents_by M v (take (i + 1) (ring_of t v)))
    place_more set a c =
        c ∙ rw (a, far_is, x_is)
        (joined_join set (base + n) (dependents_by M v (take (i + 1) (ring_of t v))) (dependents_by M v (take i (ring_of t v))) (u ∷ mid M v u ∷ opposite M v u ∷ [])
        (λ y. rw (add-one i, take-suc (ring_of t v) i 0 l, ← e) (dependents_last M v y (take i (ring_of t v)) u)))

  -- all places
  pub dependents_marked : (set : ℕ → Bool) {first after : ℕ → Bool} → first ≡ including set (base + n + v) → {i : ℕ} → length (ring_of t v) ≤ i
      → after ≡ joined first (base + n) (dependents_by M v (take i (ring_of t v))) → after ≡ joined set (base + n) (dependents M v)
  unfolding dependents old_ring
  dependents_marked set {first} a {i} k c =
      let whole : take i (ring_of t v) ≡ M.ring v = take_all i (ring_of t v) k ∙ sym (rows_ring n t v h) in
      c ∙ rw (a, whole, including_is set (base + n) v)
      (joined_join set (base + n) (v ∷ dependents_by M v (M.ring v)) (v ∷ []) (dependents_by M v (M.ring v)) (λ y. omega arith))
