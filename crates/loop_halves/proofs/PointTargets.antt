-- The table of positions with the whole next level, as a target: what it has for each vertex, and that a table that comes nearer to it keeps this level and the target. Assumes nothing.
use Prim.Native.Nat.{ℕ, zero, suc, ◌+◌, ◌-◌, ◌*◌, ◌/◌, ◌%◌, ◌≤◌, ◌<◌}
use mathlib.Core.Path.{◌≡◌, refl, sym, ap, ap₂, subst, ◌∙◌}
use mathlib.Core.List.{List, [], ◌∷◌, ◌++◌}
use mathlib.Core.Logic.{◌⊎◌, ⊎_elim}
use native.Mathlib.Nat.{div-add-mod', mod-lt}
use native.Mathlib.Omega.{arith}
use lib.Dec.{lit<}
use lib.IntN.{ℤ, pos}
use lib.ListN.{length, get_or}
use Rattle.mesh.specs.Mesh.{Mesh, Sound, edges}
use Rattle.mesh.specs.Ring.{◌∈◌, next, prev, place}
use Rattle.mesh.proofs.Lists.{lt_split}
use Rattle.mesh.proofs.Rings.{get_or_place, place_lt}
use Rattle.steps.specs.Mask.{by_mask}
use Rattle.loop_step.specs.Loop.{edge_mask, loop_mask}
use Rattle.loop_step.specs.Refine.{mid, low_end, high_end}
use Rattle.loop_step.proofs.Mids as E
use Rattle.units.specs.Coordinate.{InRange}
use Rattle.rings.specs.Table.{Lent, lent, valence_at, put, gather, ring_of, rows, coordinate_at, point_at, point_rows}
use Rattle.rings.proofs.Tables.{length_put, put_before, put_within, put_behind, gather_at}
use Rattle.rings.proofs.Rows.{rows_ring}
use Rattle.loop_points.specs.Level.{Levels, Near, point_by, coordinates, next_point, positions_up_to}
use Rattle.loop_points.proofs.Mids.{ready_length, q_in}
use Rattle.loop_points.proofs.NextLevel.{length_points, new_range, new_mask, next_same}
use Rattle.loop_halves.specs.Nearer.{Nearer, Points, PlacesOfBelow, positions_next, number_at}
use Rattle.loop_halves.proofs.Nearing.{nearer_then, reached}
use Rattle.loop_halves.proofs.Targets.{put_agree}

three_at_lem : (f : ℕ → ℕ → ℤ) (x axis : ℕ) → axis < 3 → get_or (f 0 x ∷ f 1 x ∷ f 2 x ∷ []) axis (pos 0) ≡ f axis x
three_at_lem f x zero h = refl
three_at_lem f x (suc zero) h = refl
three_at_lem f x (suc (suc zero)) h = refl
three_at_lem f x (suc (suc (suc k))) h = absurd (omega arith)

module _ {n : ℕ} {t : Lent} {ps : List ℤ} (L : Levels n t ps) where
  abbrev M : Mesh
  M = rows n t

  abbrev S : Sound (rows n t)
  S = L.ready.sound

  block_fits : (m : ℕ) → m ≤ n + edges M → n * 3 + length (point_rows (next_point M ps) m) ≤ length ps
  block_fits m h = let e = length_points (next_point M ps) m in let a = L.points in omega arith

  up_to_point : (m : ℕ) → m ≤ n + edges M → (y axis : ℕ) → y < m → axis < 3 → get_or (positions_up_to n m t ps) ((n + y) * 3 + axis) (pos 0) ≡ next_point M ps axis y
  unfolding positions_up_to point_rows
  up_to_point m b y axis h l =
      let f : ℕ → List ℤ = λ v. next_point M ps 0 v ∷ next_point M ps 1 v ∷ next_point M ps 2 v ∷ [] in
      let s = length_points (next_point M ps) m in
      let z : (n + y) * 3 + axis ≡ n * 3 + (y * 3 + axis) = omega arith in
      ap (λ (x : ℕ). get_or (put ps (n * 3) (gather f m)) x (pos 0)) z
      ∙ put_within ps (n * 3) (gather f m) (block_fits m b) (pos 0) (y * 3 + axis) (omega arith)
      ∙ gather_at f 3 (λ i. refl) m y axis (pos 0) h l
      ∙ three_at_lem (next_point M ps) y axis l

  target_length : length (positions_next n t ps) ≡ length ps
  unfolding positions_next positions_up_to
  target_length = length_put ps (n * 3) (point_rows (next_point M ps) (n + edges M)) (block_fits (n + edges M) (omega arith))

  target_before : (a : ℕ) → a < n * 3 → get_or (positions_next n t ps) a (pos 0) ≡ get_or ps a (pos 0)
  unfolding positions_next positions_up_to
  target_before a h = put_before ps (n * 3) (point_rows (next_point M ps) (n + edges M)) (block_fits (n + edges M) (omega arith)) (pos 0) a h

  target_behind : (a : ℕ) → (n + (n + edges M)) * 3 ≤ a → get_or (positions_next n t ps) a (pos 0) ≡ get_or ps a (pos 0)
  unfolding positions_next positions_up_to
  target_behind a h =
      let e = length_points (next_point M ps) (n + edges M) in
      put_behind ps (n * 3) (point_rows (next_point M ps) (n + edges M)) (block_fits (n + edges M) (omega arith)) (pos 0) a (omega arith)

  target_point : (y axis : ℕ) → y < n + edges M → axis < 3 → get_or (positions_next n t ps) ((n + y) * 3 + axis) (pos 0) ≡ next_point M ps axis y
  unfolding positions_next
  target_point y axis h l = up_to_point (n + edges M) (omega arith) y axis h l

  -- the point of the edge from p to the greater neighbour q at place i of p
  pub edge_target : (p i : ℕ) (h : p < n) (l : i < valence_at t p) (q : ℕ) (e : q ≡ get_or (ring_of t p) i 0) → p < q → (axis : ℕ) → axis < 3
      → get_or (coordinates (point_by (edge_mask p q (next (ring_of t p) q) (prev (ring_of t p) q)) ps)) axis (pos 0) ≡ get_or (positions_next n t ps) ((n + mid M p q) * 3 + axis) (pos 0)
  unfolding rows point_by next_point
  edge_target p i h l q e low axis a =
      let m : q ∈ M.ring p = q_in L.ready p i h l q e in
      let u : M.ring p ≡ ring_of t p = rows_ring n t p h in
      let μ : loop_mask M (mid M p q) ≡ edge_mask p q (next (ring_of t p) q) (prev (ring_of t p) q) =
      new_mask M S p q low h m ∙ ap (λ (j : List ℕ). edge_mask p q (next j q) (prev j q)) u in
      three_at_lem (λ (x y : ℕ). by_mask (edge_mask p q (next (ring_of t p) q) (prev (ring_of t p) q)) (coordinate_at ps x)) 0 axis a
      ∙ sym (target_point (mid M p q) axis (new_range M S p q low h m).1 a ∙ ap (λ μ. by_mask μ (coordinate_at ps axis)) μ)

  -- ---- what a table that comes nearer keeps

  module _ {new : List ℤ} (f : Nearer (pos 0) (positions_next n t ps) ps new) where
    kept_before : (a : ℕ) → a < n * 3 → get_or new a (pos 0) ≡ get_or ps a (pos 0)
    kept_before a h = f.keeps a (sym (target_before a h)) ∙ target_before a h

    kept_coordinate : (axis v : ℕ) → axis < 3 → v < n → coordinate_at new axis v ≡ coordinate_at ps axis v
    unfolding coordinate_at
    kept_coordinate axis v a l = kept_before (v * 3 + axis) (omega arith)

    pub kept_near : Near n new
    kept_near =
        let e = f.long in
        let g = L.near.points in
        record { points = omega arith; near = λ v l axis i. subst InRange (sym (kept_coordinate axis v i l)) (L.near.near v l axis i) }

    pub kept_point_lem : (v : ℕ) → v < n → point_at new v ≡ point_at ps v
    unfolding point_at
    kept_point_lem v l = rw (kept_coordinate 0 v (omega arith) l, kept_coordinate 1 v (omega arith) l, kept_coordinate 2 v (omega arith) l)

    pub kept_levels : Levels n t new
    kept_levels = record { ready = L.ready; near = kept_near; points = let e = f.long in let g = L.points in omega arith }

    kept_next : (axis x : ℕ) → axis < 3 → x < n + edges M → next_point M new axis x ≡ next_point M ps axis x
    unfolding next_point rows
    kept_next axis x a h = next_same M S x h (coordinate_at new axis) (coordinate_at ps axis) (λ v l. kept_coordinate axis v a l)

    kept_points : (m : ℕ) → m ≤ n + edges M → point_rows (next_point M new) m ≡ point_rows (next_point M ps) m
    unfolding point_rows
    kept_points zero h = refl
    kept_points (suc m) h =
        ap₂ (λ (x y : List ℤ). x ++ y) (kept_points m (omega arith))
        (rw (kept_next 0 m (omega arith) (omega arith), kept_next 1 m (omega arith) (omega arith), kept_next 2 m (omega arith) (omega arith)))

    kept_here : positions_next n t new ≡ positions_next n t ps
    unfolding positions_next positions_up_to
    kept_here =
        let e = length_points (next_point M ps) (n + edges M) in
        ap (put new (n * 3)) (kept_points (n + edges M) (omega arith))
        ∙ put_agree (pos 0) new ps (n * 3) (point_rows (next_point M ps) (n + edges M)) (block_fits (n + edges M) (omega arith)) f.long kept_before
        (λ i b. f.keeps i (sym (target_behind i (omega arith))) ∙ target_behind i (omega arith))

    -- also by rings that have the same mesh
    pub kept_target : (rs' : List ℕ) → rows n (lent t.valences rs') ≡ rows n t → positions_next n (lent t.valences rs') new ≡ positions_next n t ps
    unfolding positions_next positions_up_to
    kept_target rs' e = ap (λ (N : Mesh). put new (n * 3) (point_rows (next_point N new) (n + edges N))) e ∙ kept_here

  -- ---- one step more

  module _ (rs' : List ℕ) (same : rows n (lent t.valences rs') ≡ rows n t) (rings : (v : ℕ) → v < n → ring_of (lent t.valences rs') v ≡ ring_of t v) {now new : List ℤ} {P Q R : ℕ → ℕ → Type 0} where
    pub points_join : Points n t ps now P → Points n (lent t.valences rs') now new Q → ((u i : ℕ) → R u i → (u < n) × (P u i ⊎ Q u i)) → Points n t ps new R
    points_join h g d =
        let j : positions_next n (lent t.valences rs') now ≡ positions_next n t ps = kept_target h.nearer rs' same in
        let f : Nearer (pos 0) (positions_next n t ps) now new = subst (λ (x : List ℤ). Nearer (pos 0) x now new) j g.nearer in
        record {
          nearer = nearer_then (pos 0) (positions_next n t ps) h.nearer f;
          low = λ u i r l axis a.
              let m : number_at n (lent t.valences rs') u i ≡ number_at n t u i = rw (same, rings u (d u i r).0) in
              ⊎_elim
              (λ p. f.keeps ((n + number_at n t u i) * 3 + axis) (h.low u i p l axis a))
              (λ q.
              subst (λ (x : List ℤ). get_or new ((n + number_at n t u i) * 3 + axis) (pos 0) ≡ get_or x ((n + number_at n t u i) * 3 + axis) (pos 0)) j
              (subst (λ (x : ℕ). get_or new ((n + x) * 3 + axis) (pos 0) ≡ get_or (positions_next n (lent t.valences rs') now) ((n + x) * 3 + axis) (pos 0)) m
              (g.low u i q (rw (rings u (d u i r).0) l) axis a)))
              (d u i r).1;
        }

  -- ---- all steps

  pub positions_reached : ps ≡ positions_up_to n n t ps → {new : List ℤ} → Points n t ps new (PlacesOfBelow t.valences n) → new ≡ positions_next n t ps
  unfolding rows
  positions_reached e {new} h =
      reached (pos 0) (positions_next n t ps) new (h.nearer.long ∙ sym target_length) (λ a _.
      ⊎_elim
      (λ q. h.nearer.keeps a (sym (target_before a q.1)))
      (λ q.
      ⊎_elim
      (λ b.
      let y : ℕ = a / 3 - n in
      let axis : ℕ = a % 3 in
      let w : a / 3 * 3 + a % 3 ≡ a = div-add-mod' a 3 in
      let l : a % 3 < 3 = mod-lt a (lit< tt) in
      let z : (n + y) * 3 + axis ≡ a = omega arith in
      subst (λ (x : ℕ). get_or new x (pos 0) ≡ get_or (positions_next n t ps) x (pos 0)) z (whole y axis (omega arith) l))
      (λ b. h.nearer.keeps a (sym (target_behind a b.1)))
      (lt_split a ((n + (n + edges M)) * 3)))
      (lt_split a (n * 3)))
    where
      whole : (y axis : ℕ) → y < n + edges M → axis < 3 → get_or new ((n + y) * 3 + axis) (pos 0) ≡ get_or (positions_next n t ps) ((n + y) * 3 + axis) (pos 0)
      whole y axis b l =
          ⊎_elim
          (λ o. h.nearer.keeps ((n + y) * 3 + axis) (ap (λ (j : List ℤ). get_or j ((n + y) * 3 + axis) (pos 0)) e ∙ up_to_point n (omega arith) y axis o.1 l ∙ sym (target_point y axis b l)))
          (λ o.
          let x = E.ends M S.proper S.mutual' y o.1 b in
          let p : ℕ = low_end M y in
          let q : ℕ = high_end M y in
          let g : p < n = omega arith in
          let u : M.ring p ≡ ring_of t p = rows_ring n t p g in
          let m : q ∈ ring_of t p = subst (λ (j : List ℕ). q ∈ j) u x.2 in
          let i : ℕ = place q (ring_of t p) in
          let v : get_or (ring_of t p) i 0 ≡ q = get_or_place q (ring_of t p) 0 m in
          let c = ready_length L.ready g in
          let k = place_lt q (ring_of t p) m in
          let s : number_at n t p i ≡ y = ap (mid M p) v ∙ x.3 in
          subst (λ (j : ℕ). get_or new ((n + j) * 3 + axis) (pos 0) ≡ get_or (positions_next n t ps) ((n + j) * 3 + axis) (pos 0)) s (h.low p i (g, omega arith) (omega arith) axis l))
          (lt_split y n)
