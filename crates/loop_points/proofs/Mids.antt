-- The rings of the next level, read in tables that are ready: m(p,q) by its rank or by the new ring of q, and the ring of a new vertex. Assumes nothing.
use Prim.Native.Nat.{ℕ, ◌+◌, ◌*◌, ◌≤◌, ◌<◌}
use mathlib.Core.Path.{◌≡◌, refl, sym, ap, ◌∙◌}
use mathlib.Core.List.{List, [], ◌∷◌}
use mathlib.Core.Logic.{◌≢◌}
use native.Mathlib.Nat.{min-eq_left, max-eq_right}
use native.Mathlib.Omega.{arith}
use lib.ListN.{length, get_or, drop}
use lib.Seq.{get_or-take, get_or-drop}
use Rattle.mesh.specs.Limits.{place_bound}
use Rattle.mesh.specs.Mesh.{Mesh, over, up}
use Rattle.mesh.specs.Numbering.{below, start, number}
use Rattle.mesh.specs.Ring.{◌∈◌, Distinct, place, place_after, place_before, next, prev}
use Rattle.mesh.proofs.SoundMeshes.{edge_lt, edge_ne, prev_next}
use Rattle.mesh.proofs.Rings.{get_or_in, get_or_place, place_lt, place_get_or}
use Rattle.mesh.proofs.Places.{next_is, prev_is}
use Rattle.loop_step.specs.Refine.{mid, new_ring}
use Rattle.loop_step.proofs.Mids as E
use Rattle.rings.specs.Table.{Lent, valence_at, ring_of, rows}
use Rattle.rings.specs.Accepts.{HasRow}
use Rattle.rings.proofs.Rows.{rows_ring, row_length}
use Rattle.loop_points.specs.Level.{Ready, HasOld, start_of}

-- m(p,q) of p up to q
mid_low : (M : Mesh) (p q : ℕ) → p ≤ q → mid M p q ≡ M.count + (start (up M) p + below q (over p (M.ring p)))
unfolding mid number up
mid_low M p q h = rw (min-eq_left {n = p} {m = q} h, max-eq_right {n = p} {m = q} h)

module _ {n : ℕ} {t : Lent} (r : Ready n t) where
  -- ---- rows

  rows_count : (rows n t).count ≡ n
  unfolding rows
  rows_count = refl

  abbrev M : Mesh
  M = rows n t

  pub ready_row : {v : ℕ} → v < n → HasRow t v
  ready_row l = let m = r.most _ l in let a = r.room.valences in let b = r.room.rings in record { valence = omega arith; row = omega arith }

  pub ready_length : {v : ℕ} → v < n → length (ring_of t v) ≡ valence_at t v
  ready_length {v} l = row_length t v (ready_row l)

  pub ready_entry : (v i : ℕ) → i < valence_at t v → get_or t.rings (v * 32 + i) 0 ≡ get_or (ring_of t v) i 0
  unfolding ring_of
  ready_entry v i l = sym (get_or-take (valence_at t v) (drop (v * 32) t.rings) i 0 l ∙ get_or-drop (v * 32) t.rings i 0)

  -- a place of the next level's row of an old vertex
  pub ready_place : (v i : ℕ) → v < n → i < valence_at t v → (n + v) * 32 + i < length t.rings
  ready_place v i l k = let m = r.most v l in let b = r.room.rings in omega arith

  -- ---- the neighbour q at place i of p

  module _ (p i : ℕ) (h : p < n) (l : i < valence_at t p) where
    place_known : i < length (ring_of t p)
    place_known = let e = ready_length h in omega arith

    pub ring_once : Distinct (ring_of t p)
    unfolding rows
    ring_once = rw (rows_ring n t p h) at (r.sound.proper p h).distinct

    -- the neighbours beside it, by places
    pub after_place : (k : ℕ) → k ≡ place_after (valence_at t p) i → get_or (ring_of t p) k 0 ≡ next (ring_of t p) (get_or (ring_of t p) i 0)
    after_place k e =
        next_is (get_or (ring_of t p) i 0) (ring_of t p) i (sym (place_get_or (ring_of t p) i 0 ring_once place_known)) k (rw (ready_length h) e)

    pub before_place : (k : ℕ) → k ≡ place_before (valence_at t p) i → get_or (ring_of t p) k 0 ≡ prev (ring_of t p) (get_or (ring_of t p) i 0)
    before_place k e =
        prev_is (get_or (ring_of t p) i 0) (ring_of t p) i (sym (place_get_or (ring_of t p) i 0 ring_once place_known)) k (rw (ready_length h) e)

    -- m(p,next) and m(p,prev) as the new ring of p has them
    module _ (o : HasOld n t n) (k : ℕ) where
      pub old_after : k ≡ place_after (valence_at t p) i → k < valence_at t p → get_or t.rings ((n + p) * 32 + k) 0 ≡ mid M p (next (ring_of t p) (get_or (ring_of t p) i 0))
      old_after e g = o.place p h k g ∙ ap (mid M p) (after_place k e)

      pub old_before : k ≡ place_before (valence_at t p) i → k < valence_at t p → get_or t.rings ((n + p) * 32 + k) 0 ≡ mid M p (prev (ring_of t p) (get_or (ring_of t p) i 0))
      old_before e g = o.place p h k g ∙ ap (mid M p) (before_place k e)

    module _ (q : ℕ) (e : q ≡ get_or (ring_of t p) i 0) where
      pub q_in : q ∈ M.ring p
      q_in = rw (rows_ring n t p h, e) (get_or_in (ring_of t p) i 0 place_known)

      pub neighbour_lt : q < n
      unfolding rows
      neighbour_lt = edge_lt M r.sound p q h q_in

      pub neighbour_ne : q ≢ p
      unfolding rows
      neighbour_ne = edge_ne M r.sound p q h q_in

      pub p_in : p ∈ M.ring q
      unfolding rows
      p_in = r.sound.mutual' p q h q_in

      -- b and a of the edge p, q, seen from q
      pub after_back : prev (M.ring p) q ≡ next (M.ring q) p
      unfolding rows
      after_back = prev_next M r.sound p q h q_in

      pub before_back : prev (M.ring q) p ≡ next (M.ring p) q
      unfolding rows
      before_back = prev_next M r.sound q p neighbour_lt p_in

      pub p_there : p ∈ ring_of t q
      p_there = rw (rows_ring n t q neighbour_lt) at p_in

      mid_small : mid M p q < place_bound
      unfolding rows
      mid_small = let m = E.mid_range M r.sound.proper r.sound.mutual' p q h q_in in let f = r.fits in omega arith

      -- m(p,q) counted, where q is over p
      pub counted_mid : p < q → (table : List ℕ) → table ≡ ring_of t p → (s k : ℕ) → s ≡ start_of n t p → k ≡ below q (over p table)
          → (n + s + k ≡ mid M p (get_or (ring_of t p) i 0)) × (n + s + k < place_bound)
      unfolding start_of
      counted_mid g table d s k a b =
          let w = mid_low M p q (omega arith) in
          let c : M.count ≡ n = rows_count in
          let x : below q (over p (M.ring p)) ≡ below q (over p table) = ap (λ u. below q (over p u)) (rows_ring n t p h ∙ sym d) in
          let m = mid_small in
          rw (← e) (omega arith, omega arith)

      pub counted_small : p < q → (s : ℕ) → s ≡ start_of n t p → n + s < place_bound
      counted_small g s a = let m = counted_mid g (ring_of t p) refl s (below q (over p (ring_of t p))) a refl in omega arith

      -- p in the ring of q
      module _ (j : ℕ) (f : j ≡ place p (ring_of t q)) where
        pub back_place : j < valence_at t q
        back_place = let k = place_lt p (ring_of t q) p_there in let g = ready_length neighbour_lt in omega arith

        back_is : get_or (ring_of t q) j 0 ≡ p
        back_is = rw f (get_or_place p (ring_of t q) 0 p_there)

        -- m(p,q) copied, where the new ring of q is there
        pub copied_mid : q ≤ p → HasOld n t p → (get_or t.rings ((n + q) * 32 + j) 0 ≡ mid M p (get_or (ring_of t p) i 0)) × (get_or t.rings ((n + q) * 32 + j) 0 < place_bound)
        copied_mid g o =
            let c : get_or t.rings ((n + q) * 32 + j) 0 ≡ mid M p q =
            o.place q (let d = neighbour_ne in omega arith) j back_place
            ∙ ap (mid M q) back_is ∙ E.mid_sym M r.sound.proper r.sound.mutual' q p in
            let m = mid_small in
            (c ∙ ap (mid M p) e, omega arith)

        -- the ring of their new vertex, by the vertices beside q in p and beside p in q
        pub new_places : (pb qb qa pa : ℕ) → pb ≡ mid M p (prev (ring_of t p) (get_or (ring_of t p) i 0))
            → qb ≡ mid M q (next (ring_of t q) (get_or (ring_of t q) j 0)) → qa ≡ mid M q (prev (ring_of t q) (get_or (ring_of t q) j 0))
            → pa ≡ mid M p (next (ring_of t p) (get_or (ring_of t p) i 0)) → p ∷ pb ∷ qb ∷ q ∷ qa ∷ pa ∷ [] ≡ new_ring M p (get_or (ring_of t p) i 0)
        unfolding new_ring
        new_places pb qb qa pa w x y z =
            let u : M.ring p ≡ ring_of t p = rows_ring n t p h in
            let v : M.ring q ≡ ring_of t q = rows_ring n t q neighbour_lt in
            let b : next (ring_of t q) (get_or (ring_of t q) j 0) ≡ prev (ring_of t p) q = rw back_is (rw (u, v) at (sym after_back)) in
            let a : prev (ring_of t q) (get_or (ring_of t q) j 0) ≡ next (ring_of t p) q = rw back_is (rw (u, v) at before_back) in
            let w' : pb ≡ mid M p (prev (ring_of t p) q) = rw (← e) at w in
            let z' : pa ≡ mid M p (next (ring_of t p) q) = rw (← e) at z in
            let x' : qb ≡ mid M q (prev (ring_of t p) q) = x ∙ ap (mid M q) b in
            let y' : qa ≡ mid M q (next (ring_of t p) q) = y ∙ ap (mid M q) a in
            rw (← e, u, w', x', y', z')
