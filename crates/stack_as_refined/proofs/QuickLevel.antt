-- Where the quick pass says yes, the next level is as refinement gives it. The new vertices name edges that ascend, and every edge is named by the new vertex that
-- both its ends have for it; as many numbers as edges are there, so that each edge has the number that refinement gives it, and the rings follow. Assumes nothing.
use Prim.Native.Nat.{ℕ, ◌+◌, ◌-◌, ◌*◌, ◌≤◌, ◌<◌}
use mathlib.Core.Path.{◌≡◌, refl, sym, ap, ap₂, ◌∙◌}
use mathlib.Core.Bool.{false}
use mathlib.Core.List.{List}
use mathlib.Core.Logic.{⊎_elim}
use native.Mathlib.Omega.{arith}
use lib.IntN.{ℤ}
use lib.ListN.{length, get_or, take, drop, length-take, length-drop}
use lib.Seq.{ext_get_or, get_or-take, get_or-drop, drop-drop}
use Rattle.mesh.specs.Limits.{place_bound}
use Rattle.mesh.specs.Search.{first}
use Rattle.mesh.specs.Mesh.{Mesh, edges}
use Rattle.mesh.specs.Ring.{◌∈◌, place, place_after, place_before, next, prev}
use Rattle.mesh.proofs.Lists.{lt_split}
use Rattle.mesh.proofs.First.{Clear, or_both}
use Rattle.mesh.proofs.SoundMeshes.{edge_lt, edge_ne}
use Rattle.mesh.proofs.Rings.{get_or_in, get_or_place, place_lt, place_get_or, after_lt, before_lt}
use Rattle.loop_step.specs.Refine.{mid, low_end, high_end, new_ring, refine}
use Rattle.loop_step.proofs.EdgeNumbers as N
use Rattle.loop_step.proofs.Mids as E
use Rattle.units.specs.Coordinate.{beyond}
use Rattle.rings.specs.Table.{Lent, lent, valence_at, ring_of, rows, coordinate_at}
use Rattle.rings.specs.Check.{beyond_at}
use Rattle.rings.proofs.Rows.{rows_ring, row_length}
use Rattle.rings.proofs.LevelRows.{part_is}
use Rattle.loop_points.specs.Level.{Ready, HasOld}
use Rattle.loop_points.proofs.Mids.{ready_length, ready_entry, ring_once, old_after, old_before, new_places}
use Rattle.stack_strange.specs.Expected.{strange_next}
use Rattle.stack_strange.proofs.Strange.{not_other}
use Rattle.stack_strange.proofs.NextRows.{next_row, want_length, want_entry, new_is, new_length}
use Rattle.stack_strange.proofs.NextNumbers.{clear_all}
use Rattle.stack_agreement.specs.Agreement.{NamesUpward, NamesDownward, EdgeVertex, RowsAgree, edge_key, Ascends, SameValences, SixValences, NearFrom}
use Rattle.stack_as_refined.proofs.Climbs.{climb_is, six_list}

module _ {n : ℕ} {t : Lent} (r : Ready n t) where
  abbrev M : Mesh
  M = rows n t

  -- the rows of the next level
  abbrev above : List ℕ
  above = drop (n * 32) t.rings

  -- ---- where the pass says yes

  module _ (agree : RowsAgree n (n + edges M) n t) (ascend : Ascends (drop ((n + n) * 32) t.rings) (edges M)) where
    -- the edge that the ring of vertex x of the next level names
    abbrev key : ℕ → ℕ
    key x = get_or t.rings ((n + x) * 32) 0 * place_bound + get_or t.rings ((n + x) * 32 + 3) 0

    key_of : (y : ℕ) → edge_key (drop ((n + n) * 32) t.rings) y ≡ key (n + y)
    unfolding edge_key
    key_of y =
        let a : (n + n) * 32 + y * 32 ≡ (n + (n + y)) * 32 = omega arith in
        let b : (n + n) * 32 + (y * 32 + 3) ≡ (n + (n + y)) * 32 + 3 = omega arith in
        rw (get_or-drop ((n + n) * 32) t.rings (y * 32) 0, get_or-drop ((n + n) * 32) t.rings (y * 32 + 3) 0, a, b)

    key_later : (x y : ℕ) → n ≤ x → x < y → y < n + edges M → key x < key y
    key_later x y h l g =
        let a : n + (x - n) ≡ x = omega arith in
        let b : n + (y - n) ≡ y = omega arith in
        rw (key_of (x - n), key_of (y - n), a, b) at (ascend.later (x - n) (y - n) (omega arith) (omega arith))

    key_less : (x y : ℕ) → x < n + edges M → n ≤ y → key x < key y → x < y
    key_less x y g h l =
        ⊎_elim (λ s. s.1)
        (λ s. let m = s.1 in ⊎_elim (λ told. let w = key_later y x h told.1 g in absurd (omega arith)) (λ told. let w = told.1 in let z : x ≡ y = omega arith in let v : key x ≡ key y = ap key z in absurd (omega arith)) (lt_split y x))
        (lt_split x y)

    key_same : (x y : ℕ) → n ≤ x → x < n + edges M → n ≤ y → y < n + edges M → key x ≡ key y → x ≡ y
    key_same x y h g h' g' e =
        ⊎_elim (λ s. let w = key_later x y h s.1 g' in absurd (omega arith))
        (λ s. let m = s.1 in ⊎_elim (λ told. let w = key_later y x h' told.1 g in absurd (omega arith)) (λ told. let w = told.1 in omega arith) (lt_split y x)) (lt_split x y)

    six_at : (x k : ℕ) → k < 6 → get_or (take 6 (drop (x * 32) above)) k 0 ≡ get_or t.rings ((n + x) * 32 + k) 0
    six_at x k h =
        let e : n * 32 + (x * 32 + k) ≡ (n + x) * 32 + k = omega arith in
        get_or-take 6 (drop (x * 32) above) k 0 h ∙ get_or-drop (x * 32) above k 0 ∙ get_or-drop (n * 32) t.rings (x * 32 + k) 0 ∙ ap (λ (j : ℕ). get_or t.rings j 0) e

    first_at : (x : ℕ) → get_or (take 6 (drop (x * 32) above)) 0 0 ≡ get_or t.rings ((n + x) * 32) 0
    first_at x = let e : (n + x) * 32 + 0 ≡ (n + x) * 32 = omega arith in six_at x 0 (omega arith) ∙ ap (λ (j : ℕ). get_or t.rings j 0) e

    -- ---- the new vertex at place i of p, for the neighbour there

    module _ (p i : ℕ) (h : p < n) (l : i < valence_at t p) where
      abbrev neighbour : ℕ
      neighbour = get_or (ring_of t p) i 0

      abbrev named : ℕ
      named = get_or (ring_of (lent t.valences above) p) i 0

      named_edge : EdgeVertex above n (n + edges M) p neighbour named (get_or (ring_of (lent t.valences above) p) (place_before (valence_at t p) i) 0) (get_or (ring_of (lent t.valences above) p) (place_after (valence_at t p) i) 0)
      named_edge = rw (ready_length r h) at ((agree.row p h).place i (rw (ready_length r h) l))

      key_up : p < neighbour → key named ≡ p * place_bound + neighbour
      key_up o =
          let told = named_edge.names.upward o in
          let a = sym (first_at named) ∙ told.place0 in
          let b = sym (six_at named 3 (omega arith)) ∙ told.place3 in
          omega arith

      key_down : neighbour ≤ p → key named ≡ neighbour * place_bound + p
      key_down o =
          let told = named_edge.names.downward o in
          let a = sym (first_at named) ∙ told.place0 in
          let b = sym (six_at named 3 (omega arith)) ∙ told.place3 in
          omega arith

    -- ---- the new vertex that p has for its neighbour q

    abbrev vertex_of : ℕ → ℕ → ℕ
    vertex_of p q = get_or (ring_of (lent t.valences above) p) (place q (ring_of t p)) 0

    module _ (p q : ℕ) (h : p < n) (m : q ∈ M.ring p) where
      in_row : q ∈ ring_of t p
      in_row = rw (rows_ring n t p h) at m

      at_place : place q (ring_of t p) < valence_at t p
      at_place = let e = ready_length r h in let a = place_lt q (ring_of t p) in_row in omega arith

      at_entry : get_or (ring_of t p) (place q (ring_of t p)) 0 ≡ q
      at_entry = get_or_place q (ring_of t p) 0 in_row

      vertex_range : (n ≤ vertex_of p q) × (vertex_of p q < n + edges M)
      vertex_range = let told = named_edge p (place q (ring_of t p)) h at_place in (told.low, told.high)

      vertex_key : p < q → key (vertex_of p q) ≡ p * place_bound + q
      vertex_key o = let e = at_entry in key_up p (place q (ring_of t p)) h at_place (omega arith) ∙ ap (λ (k : ℕ). p * place_bound + k) e

    -- ---- edges by their numbers

    ends_at : (x : ℕ) → n ≤ x → x < n + edges M → (low_end M x < high_end M x) × ((high_end M x < n) × ((high_end M x ∈ M.ring (low_end M x)) × (mid M (low_end M x) (high_end M x) ≡ x)))
    unfolding rows
    ends_at x h g = let a = N.ends_are_an_edge M r.sound x h g in (a.0, (a.1, (a.2, N.mid_of_ends M r.sound x h g)))

    -- an edge with a lesser number is the lesser by its ends
    by_ends : (p q p' q' : ℕ) → p < q → q < n → q ∈ M.ring p → p' < q' → q' < n → q' ∈ M.ring p' → mid M p q < mid M p' q' → p * place_bound + q < p' * place_bound + q'
    unfolding rows
    by_ends p q p' q' o h m o' h' m' l =
        let f = r.fits in
        ⊎_elim
        (λ s. let a = s.1 in omega arith)
        (λ s. let a = s.1 in ⊎_elim
        (λ told. let w = N.mid_by_p M r.sound p' q' p q (omega arith) m' o' told.1 o in absurd (omega arith))
        (λ told. let b = told.1 in let e : p ≡ p' = omega arith in ⊎_elim
        (λ u. let c = u.1 in omega arith)
        (λ u. let c = u.1 in ⊎_elim
        (λ v. let w = N.mid_by_q M r.sound p' q' q (omega arith) m' o' v.1 in let z : mid M p q ≡ mid M p' q = ap (λ (k : ℕ). mid M k q) e in absurd (omega arith))
        (λ v. let d = v.1 in let e' : q ≡ q' = omega arith in let z : mid M p q ≡ mid M p' q' = ap₂ (mid M) e e' in absurd (omega arith))
        (lt_split q' q))
        (lt_split q q'))
        (lt_split p' p))
        (lt_split p p')

    abbrev number_of : ℕ → ℕ
    number_of k = vertex_of (low_end M (n + k)) (high_end M (n + k)) - n

    number_small : (k : ℕ) → k < edges M → number_of k < edges M
    number_small k l =
        let a = ends_at (n + k) (omega arith) (omega arith) in
        let o = a.0 in
        let h = a.1.0 in
        let v = vertex_range (low_end M (n + k)) (high_end M (n + k)) (omega arith) a.1.1.0 in
        omega (arith, v.0, v.1)

    number_climbs : (k : ℕ) → k + 1 < edges M → number_of k < number_of (k + 1)
    number_climbs k l =
        let a = ends_at (n + k) (omega arith) (omega arith) in
        let b = ends_at (n + (k + 1)) (omega arith) (omega arith) in
        let p : ℕ = low_end M (n + k) in
        let q : ℕ = high_end M (n + k) in
        let p' : ℕ = low_end M (n + (k + 1)) in
        let q' : ℕ = high_end M (n + (k + 1)) in
        let o : p < q = a.0 in
        let h : q < n = a.1.0 in
        let o' : p' < q' = b.0 in
        let h' : q' < n = b.1.0 in
        let v = vertex_range p q (omega arith) a.1.1.0 in
        let v' = vertex_range p' q' (omega arith) b.1.1.0 in
        let w = by_ends p q p' q' o h a.1.1.0 o' h' b.1.1.0 (omega (arith, a.1.1.1, b.1.1.1)) in
        let z = key_less (vertex_of p q) (vertex_of p' q') v.1 v'.0 (rw (vertex_key p q (omega arith) a.1.1.0 o, vertex_key p' q' (omega arith) b.1.1.0 o') w) in
        omega (arith, v.0, z)

    -- the vertex that the lesser end has is the edge's
    low_has : (p q : ℕ) → p < q → p < n → q ∈ M.ring p → vertex_of p q ≡ mid M p q
    unfolding rows
    low_has p q o h m =
        let g = N.mid_in_range M r.sound p q h m in
        let x : ℕ = mid M p q in
        let low : n ≤ x = g.0 in
        let high : x < n + edges M = g.1 in
        let z : n + (x - n) ≡ x = omega arith in
        let e = E.ends_of M r.sound.proper r.sound.mutual' p q o h m in
        let c = climb_is number_of (edges M) number_small number_climbs (x - n) (omega arith) in
        let d : vertex_of p q - n ≡ x - n = rw (z, e.0, e.1) at c in
        let v = vertex_range p q h m in
        omega (arith, v.0)

    -- the vertex at place i of p is the edge's
    place_has : (p i : ℕ) → p < n → i < valence_at t p → get_or (ring_of (lent t.valences above) p) i 0 ≡ mid M p (get_or (ring_of t p) i 0)
    unfolding rows
    place_has p i h l =
        let q : ℕ = get_or (ring_of t p) i 0 in
        let inside : i < length (ring_of t p) = rw (ready_length r h) l in
        let m : q ∈ M.ring p = rw (rows_ring n t p h) (get_or_in (ring_of t p) i 0 inside) in
        let at : place q (ring_of t p) ≡ i = place_get_or (ring_of t p) i 0 (ring_once r p i h l) inside in
        ⊎_elim
        (λ s. rw at at (low_has p q s.1 h m))
        (λ s.
        let ne = edge_ne M r.sound p q h m in
        let lt : q < n = edge_lt M r.sound p q h m in
        let o : q ≤ p = s.1 in
        let back : p ∈ M.ring q = r.sound.mutual' p q h m in
        let told = named_edge p i h l in
        let v = vertex_range q p lt back in
        key_same (get_or (ring_of (lent t.valences above) p) i 0) (vertex_of q p) told.low told.high v.0 v.1 (key_down p i h l o ∙ sym (vertex_key q p lt back (omega arith)))
        ∙ low_has q p (omega arith) lt back ∙ N.mid_symmetric M r.sound q p)
        (lt_split p q)

    next_entry : (u i : ℕ) → i < valence_at t u → get_or (ring_of (lent t.valences above) u) i 0 ≡ get_or t.rings ((n + u) * 32 + i) 0
    unfolding ring_of
    next_entry u i l =
        let e : n * 32 + (u * 32 + i) ≡ (n + u) * 32 + i = omega arith in
        get_or-take (valence_at t u) (drop (u * 32) above) i 0 l ∙ get_or-drop (u * 32) above i 0 ∙ get_or-drop (n * 32) t.rings (u * 32 + i) 0 ∙ ap (λ (j : ℕ). get_or t.rings j 0) e

    has_old_rows : HasOld n t n
    has_old_rows = record { place = λ u h i l. sym (next_entry u i l) ∙ place_has u i h l }

    -- ---- the rings of the next level, row by row

    module _ (same : SameValences t.valences n n) (six : SixValences t.valences (n + n) (edges M)) where
      old_row : (p : ℕ) → p < n → ring_of t (n + p) ≡ (refine M).ring p
      old_row p h =
          let m = r.most p h in
          let e = same.same p h in
          let f = row_length t (n + p) (next_row r p (omega arith) (omega arith)) in
          let g = want_length r h in
          ext_get_or 0 (ring_of t (n + p)) ((refine M).ring p) (f ∙ e ∙ sym g)
          (λ i l. let k : i < valence_at t p = omega arith in sym (ready_entry r (n + p) i (omega arith)) ∙ has_old_rows.place p h i k ∙ sym (want_entry r h i k))

      -- the new vertex of the edge from p to the neighbour at place i
      module _ (p i : ℕ) (h : p < n) (l : i < valence_at t p) (o : p < get_or (ring_of t p) i 0) where
        abbrev q : ℕ
        q = get_or (ring_of t p) i 0

        abbrev x : ℕ
        x = get_or (ring_of (lent t.valences above) p) i 0

        q_inside : i < length (ring_of t p)
        q_inside = rw (ready_length r h) l

        q_in : q ∈ M.ring p
        q_in = rw (rows_ring n t p h) (get_or_in (ring_of t p) i 0 q_inside)

        q_lt : q < n
        unfolding rows
        q_lt = edge_lt M r.sound p q h q_in

        p_in : p ∈ M.ring q
        unfolding rows
        p_in = r.sound.mutual' p q h q_in

        abbrev j : ℕ
        j = place p (ring_of t q)

        back : get_or (ring_of t q) j 0 ≡ p
        back = at_entry q p q_lt p_in

        -- q has the same vertex for p
        shared : get_or (ring_of (lent t.valences above) q) j 0 ≡ x
        unfolding rows
        shared = place_has q j q_lt (at_place q p q_lt p_in) ∙ ap (mid M q) back ∙ N.mid_symmetric M r.sound q p ∙ sym (place_has p i h l)

        abbrev ring : List ℕ
        ring = take 6 (drop (x * 32) above)

        up_names : NamesUpward ring p q (get_or (ring_of (lent t.valences above) p) (place_before (valence_at t p) i) 0) (get_or (ring_of (lent t.valences above) p) (place_after (valence_at t p) i) 0)
        up_names = (named_edge p i h l).names.upward o

        down_names : NamesDownward ring q p (get_or (ring_of (lent t.valences above) q) (place_before (valence_at t q) j) 0) (get_or (ring_of (lent t.valences above) q) (place_after (valence_at t q) j) 0)
        down_names = rw (shared, back) at ((named_edge q j q_lt (at_place q p q_lt p_in)).names.downward (rw back (omega arith)))

        x_is : x ≡ mid M p q
        x_is = place_has p i h l

        -- a place beside i in the new row of p, and beside j in that of q
        p_before : get_or (ring_of (lent t.valences above) p) (place_before (valence_at t p) i) 0 ≡ mid M p (prev (ring_of t p) q)
        p_before = let k = before_lt (valence_at t p) i l in next_entry p (place_before (valence_at t p) i) k ∙ old_before r p i h l has_old_rows (place_before (valence_at t p) i) refl k

        p_after : get_or (ring_of (lent t.valences above) p) (place_after (valence_at t p) i) 0 ≡ mid M p (next (ring_of t p) q)
        p_after = let k = after_lt (valence_at t p) i l in next_entry p (place_after (valence_at t p) i) k ∙ old_after r p i h l has_old_rows (place_after (valence_at t p) i) refl k

        q_before : get_or (ring_of (lent t.valences above) q) (place_before (valence_at t q) j) 0 ≡ mid M q (prev (ring_of t q) (get_or (ring_of t q) j 0))
        q_before =
            let a = at_place q p q_lt p_in in
            let k = before_lt (valence_at t q) j a in
            next_entry q (place_before (valence_at t q) j) k ∙ old_before r q j q_lt a has_old_rows (place_before (valence_at t q) j) refl k

        q_after : get_or (ring_of (lent t.valences above) q) (place_after (valence_at t q) j) 0 ≡ mid M q (next (ring_of t q) (get_or (ring_of t q) j 0))
        q_after =
            let a = at_place q p q_lt p_in in
            let k = after_lt (valence_at t q) j a in next_entry q (place_after (valence_at t q) j) k ∙ old_after r q j q_lt a has_old_rows (place_after (valence_at t q) j) refl k

        x_range : (n ≤ x) × (x < n + edges M)
        x_range = let told = named_edge p i h l in (told.low, told.high)

        ring_length : length ring ≡ 6
        ring_length = let g = x_range.1 in let c = r.room.rings in simp (length-take, length-drop) (omega arith)

        six_places : ring ≡ new_ring M p q
        six_places =
            let u = up_names in
            let d = down_names in
            rw (six_list ring ring_length, u.place0, u.place3)
            (new_places r p i h l q refl j refl (get_or ring 1 0) (get_or ring 2 0) (get_or ring 4 0) (get_or ring 5 0)
            (u.place1 ∙ p_before) (d.place2 ∙ q_after) (d.place4 ∙ q_before) (u.place5 ∙ p_after))

        six_there : valence_at t (n + x) ≡ 6
        six_there =
            let g = x_range in
            let low = g.0 in
            let high = g.1 in
            let e : n + n + (x - n) ≡ n + x = omega arith in
            ap (λ (k : ℕ). valence_at t k) (sym e) ∙ six.six (x - n) (omega arith)

        new_row : ring_of t (n + x) ≡ (refine M).ring x
        unfolding ring_of
        new_row =
            let e : n * 32 + x * 32 ≡ (n + x) * 32 = omega arith in
            rw (six_there, ← e, ← drop-drop (x * 32) (n * 32) t.rings) (six_places ∙ sym (new_is r h l o x_is))

      -- ---- no vertex of the next level is strange

      module _ (ps : List ℤ) (near : NearFrom ps (n * 3) ((n + edges M) * 3)) where
        axis_near : (y axis : ℕ) → y < n + edges M → axis < 3 → beyond (coordinate_at ps axis (n + y)) ≡ false
        unfolding coordinate_at
        axis_near y axis l h = let e : n * 3 + (y * 3 + axis) ≡ (n + y) * 3 + axis = omega arith in rw (← e) (near.near (y * 3 + axis) (omega arith))

        point_near : (y : ℕ) → y < n + edges M → beyond_at ps (n + y) ≡ false
        unfolding beyond_at
        point_near y l = or_both _ _ (axis_near y 0 l (omega arith)) (or_both _ _ (axis_near y 1 l (omega arith)) (axis_near y 2 l (omega arith)))

        old_clear : (y : ℕ) → y < n → strange_next n t ps y ≡ false
        unfolding strange_next
        old_clear y h = not_other ((refine M).ring y) t ps (n + y) (same.same y h ∙ sym (want_length r h)) (old_row y h) (point_near y (omega arith))

        new_clear : (p q : ℕ) → p < q → p < n → q ∈ M.ring p → strange_next n t ps (vertex_of p q) ≡ false
        unfolding strange_next
        new_clear p q o h m =
            let i : ℕ = place q (ring_of t p) in
            let l : i < valence_at t p = at_place p q h m in
            let e : get_or (ring_of t p) i 0 ≡ q = at_entry p q h m in
            let o' : p < get_or (ring_of t p) i 0 = rw e o in
            not_other ((refine M).ring (vertex_of p q)) t ps (n + vertex_of p q) (six_there p i h l o' ∙ sym (new_length r h l o' (x_is p i h l o'))) (new_row p i h l o') (point_near (vertex_of p q) (vertex_range p q h m).1)

        all_clear : Clear (strange_next n t ps) (n + edges M)
        all_clear = record {
          below = λ y l.
              ⊎_elim
              (λ s. old_clear y s.1)
              (λ s.
              let a = ends_at y s.1 l in
              let p : ℕ = low_end M y in
              let q : ℕ = high_end M y in
              let o : p < q = a.0 in
              let h : q < n = a.1.0 in
              let e : vertex_of p q ≡ y = low_has p q o (omega arith) a.1.1.0 ∙ a.1.1.1 in
              ap (strange_next n t ps) (sym e) ∙ new_clear p q o (omega arith) a.1.1.0)
              (lt_split y n);
        }

  -- what the parts of the pass tell, as they are asked
  pub quick_clear : {end : ℕ} → end ≡ n + edges M → SameValences t.valences n n → SixValences t.valences (n + n) (end - n) → {ps : List ℤ} → NearFrom ps (n * 3) (end * 3)
      → Ascends (take (length t.rings - (n + n) * 32) (drop ((n + n) * 32) t.rings)) (end - n) → RowsAgree n end n t → end ≡ first (strange_next n t ps) (n + edges M)
  quick_clear {end} e same six {ps} near ascend agree =
      let f : end - n ≡ edges M = omega arith in
      let c = r.room.rings in
      e ∙ clear_all (all_clear (rw e at agree) (rw (part_is t.rings ((n + n) * 32) (omega arith), f) at ascend) same (rw f at six) ps (rw e at near))
