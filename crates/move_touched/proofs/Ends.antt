-- The rings of the next level, read in the tables: a new vertex has the ends of its edge in places 0 and 3, an old one the new vertices of its edges;
-- and the edge opposite a vertex stands in place 4 or 1. Assumes nothing.
use Prim.Native.Nat.{ℕ, ◌+◌, ◌*◌, ◌≤◌, ◌<◌}
use mathlib.Core.Path.{◌≡◌, sym, ap, subst, ◌∙◌}
use mathlib.Core.List.{List}
use mathlib.Core.Logic.{⊎_elim}
use native.Mathlib.Nat.{add-zero}
use native.Mathlib.Omega.{arith}
use lib.Dec.{lit<}
use lib.ListN.{length, get_or, take, drop, length-take, length-drop}
use lib.Seq.{get_or-take, get_or-drop}
use borrow.Author.Tests.{lt-ltb, le-ltb}
use Rattle.mesh.specs.Ring.{◌∈◌, next}
use Rattle.mesh.specs.Mesh.{Mesh, edges}
use Rattle.mesh.proofs.Lists.{lt_split}
use Rattle.mesh.proofs.SoundMeshes.{edge_lt, edge_ne}
use Rattle.mesh.proofs.Rings.{get_or_in}
use Rattle.loop_step.specs.Refine.{mid, low_end, high_end, around, refine}
use Rattle.loop_step.specs.Dependents.{opposite}
use Rattle.loop_step.proofs.EdgeNumbers.{ends_are_an_edge, mid_of_ends, mid_symmetric, mid_in_range}
use Rattle.loop_step.proofs.Refined.{new_ring_lem, old_valence}
use Rattle.loop_step.proofs.RefinedRows.{old_place}
use Rattle.rings.specs.Table.{Lent, valence_at, ring_of, rows}
use Rattle.rings.specs.Accepts.{HasRow}
use Rattle.rings.proofs.Rows.{rows_ring}
use Rattle.loop_points.specs.Level.{Ready}
use Rattle.move_touched.specs.NextLevel.{NextRings, opposite_read}

-- p, q is the edge of vertex x of the next level
pub record EdgeOf (n : ℕ) (t : Lent) (x p q : ℕ) : Type 0 where
  pub low : p < q
  pub known : q < n
  pub there : q ∈ (rows n t).ring p
  pub number : x ≡ mid (rows n t) p q

-- a place of a ring is a place of the table
ring_place : (t : Lent) (v : ℕ) (ring : List ℕ) → ring_of t v ≡ ring → (i : ℕ) → i < length ring → get_or t.rings (v * 32 + i) 0 ≡ get_or ring i 0
unfolding ring_of
ring_place t v ring e i h =
    let k : i < length (take (valence_at t v) (drop (v * 32) t.rings)) = rw e h in
    let l : i < valence_at t v = let m = length-take (valence_at t v) (drop (v * 32) t.rings) in omega arith in
    sym (get_or-drop (v * 32) t.rings i 0) ∙ sym (get_or-take (valence_at t v) (drop (v * 32) t.rings) i 0 l) ∙ ap (λ (table : List ℕ). get_or table i 0) e

-- the opposite edge by either test
module _ (rings : List ℕ) (n v u x : ℕ) where
  pub read_low : v < u → get_or rings ((n + x) * 32 + 4) 0 ≡ opposite_read rings n v u x
  unfolding opposite_read
  read_low h = rw (lt-ltb v u h)

  pub read_high : u ≤ v → get_or rings ((n + x) * 32 + 1) 0 ≡ opposite_read rings n v u x
  unfolding opposite_read
  read_high h = rw (le-ltb v u h)

module _ {n : ℕ} {t : Lent} (r : Ready n t) (w : NextRings n t) where
  abbrev M : Mesh
  M = rows n t

  -- ---- a new vertex

  -- the ring of the new vertex of edge p, q
  module _ (p q : ℕ) (l : p < q) (h : p < n) (m : q ∈ (rows n t).ring p) where
    edge_row : ring_of t (n + mid M p q) ≡ around M p q (next (M.ring p) q) (next (M.ring q) p)
    unfolding rows
    edge_row = w.ring (mid M p q) (mid_in_range M r.sound p q h m).1 ∙ new_ring_lem M r.sound p q l h m

    place_of : (i : ℕ) → i < 6 → get_or t.rings ((n + mid M p q) * 32 + i) 0 ≡ get_or (around M p q (next (M.ring p) q) (next (M.ring q) p)) i 0
    place_of i k = ring_place t (n + mid M p q) _ edge_row i k

    pub place_p : get_or t.rings ((n + mid M p q) * 32) 0 ≡ p
    place_p = ap (λ (k : ℕ). get_or t.rings k 0) (sym (add-zero ((n + mid M p q) * 32))) ∙ place_of 0 (lit< tt)

    pub place_q : get_or t.rings ((n + mid M p q) * 32 + 3) 0 ≡ q
    place_q = place_of 3 (lit< tt)

    pub place_a : get_or t.rings ((n + mid M p q) * 32 + 5) 0 ≡ mid M p (next (M.ring p) q)
    place_a = place_of 5 (lit< tt)

    pub place_b : get_or t.rings ((n + mid M p q) * 32 + 1) 0 ≡ mid M p (next (M.ring q) p)
    place_b = place_of 1 (lit< tt)

    pub place_opposite : get_or t.rings ((n + mid M p q) * 32 + 4) 0 ≡ mid M q (next (M.ring p) q)
    place_opposite = place_of 4 (lit< tt)

  -- its ends, read
  pub ends_read : (x : ℕ) → n ≤ x → x < n + edges (rows n t) → EdgeOf n t x (get_or t.rings ((n + x) * 32) 0) (get_or t.rings ((n + x) * 32 + 3) 0)
  unfolding rows
  ends_read x h g =
      let k = ends_are_an_edge M r.sound x h g in
      let p : ℕ = low_end M x in
      let q : ℕ = high_end M x in
      let o : mid M p q ≡ x = mid_of_ends M r.sound x h g in
      let l : p < n = omega (arith, k.0, k.1) in
      let a : get_or t.rings ((n + x) * 32) 0 ≡ p = subst (λ (y : ℕ). get_or t.rings ((n + y) * 32) 0 ≡ p) o (place_p p q k.0 l k.2) in
      let b : get_or t.rings ((n + x) * 32 + 3) 0 ≡ q = subst (λ (y : ℕ). get_or t.rings ((n + y) * 32 + 3) 0 ≡ q) o (place_q p q k.0 l k.2) in
      rw (a, b) (record { low = k.0; known = k.1; there = k.2; number = sym o })

  -- ---- an old vertex

  module _ (v : ℕ) (h : v < n) where
    next_ring : ring_of t (n + v) ≡ (refine M).ring v
    unfolding rows
    next_ring = w.ring v (omega arith)

    pub next_long : length (ring_of t (n + v)) ≡ length (ring_of t v)
    unfolding rows
    next_long = ap length next_ring ∙ old_valence M r.sound v h ∙ ap length (rows_ring n t v h)

    pub next_row : HasRow t (n + v)
    unfolding ring_of rows
    next_row =
        let u : ℕ = get_or (M.ring v) 0 0 in
        let m : u ∈ M.ring v = get_or_in (M.ring v) 0 0 (let k = r.sound.three v h in omega arith) in
        let e = mid_in_range M r.sound v u h m in
        let k : length (take (valence_at t (n + v)) (drop ((n + v) * 32) t.rings)) ≡ length ((refine M).ring v) = ap length next_ring in
        let f = length-take (valence_at t (n + v)) (drop ((n + v) * 32) t.rings) in
        let d = length-drop ((n + v) * 32) t.rings in
        let o = old_valence M r.sound v h in
        let s = (r.sound.proper v h).short in
        let a = r.room.valences in
        let b = r.room.rings in
        record { valence = omega arith; row = omega arith }

    pub next_entry : (i : ℕ) → i < length (ring_of t v) → get_or (ring_of t (n + v)) i 0 ≡ mid M v (get_or (ring_of t v) i 0)
    unfolding rows
    next_entry i l =
        let e : M.ring v ≡ ring_of t v = rows_ring n t v h in
        ap (λ (ring : List ℕ). get_or ring i 0) next_ring ∙ old_place M r.sound v i h (rw e l) ∙ ap (λ (ring : List ℕ). mid M v (get_or ring i 0)) e

    -- the edge opposite v in the face behind u
    pub opposite_is : (u : ℕ) → u ∈ (rows n t).ring v → opposite_read t.rings n v u (mid M v u) ≡ opposite M v u
    unfolding opposite_read opposite rows
    opposite_is u m =
        ⊎_elim
        (λ s. rw s.0 (place_opposite v u s.1 h m))
        (λ s.
        let g : u < n = edge_lt M r.sound v u h m in
        let c : v ∈ M.ring u = r.sound.mutual' v u h m in
        let d = edge_ne M r.sound v u h m in
        let k = s.1 in
        rw (s.0, mid_symmetric M r.sound v u) (place_b u v (omega arith) g c))
        (lt_split v u)
