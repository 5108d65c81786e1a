-- The tables that have the next level's first vertices, and where a further one goes. Assumes nothing.
use Prim.Native.Nat.{ℕ, ◌+◌, ◌*◌, ◌≤◌, ◌<◌}
use mathlib.Core.Path.{◌≡◌, sym, ap, ap₂, subst, ◌∙◌}
use mathlib.Core.List.{List, [], ◌∷◌}
use native.Mathlib.Omega.{arith}
use lib.IntN.{ℤ, pos}
use lib.ListN.{length, get_or, set}
use Rattle.mesh.specs.Mesh.{Mesh, Sound, edges, up}
use Rattle.mesh.specs.Numbering.{start}
use Rattle.steps.specs.Mask.{Mask}
use Rattle.loop_step.specs.Refine.{mid, old_ring, refine}
use Rattle.loop_step.specs.Loop.{vertex_mask, loop_mask}
use Rattle.loop_step.proofs.Refined.{old_valence}
use Rattle.units.specs.Coordinate.{InRange}
use Rattle.units.specs.declared.Point.{Point}
use Rattle.rings.specs.Table.{Lent, lent, valence_at, put, gather, ring_of, rows, padded, valence_rows, ring_rows, coordinate_at, point_rows}
use Rattle.rings.proofs.Tables.{put_nothing, length_put, put_before, put_within, length_gather, gather_at, gather_same}
use Rattle.rings.proofs.Rows.{rows_ring}
use Rattle.rings.proofs.Blocks.{put_one, put_over, gather_step, padded_at}
use Rattle.loop_points.specs.Level.{Levels, HasOld, UpTo, start_of, point_by, coordinates, next_point, valences_up_to, rings_up_to, positions_up_to}
use Rattle.loop_points.proofs.Kept.{rows_kept, ring_kept}
use Rattle.loop_points.proofs.Mids.{ready_length}
use Rattle.loop_points.proofs.OldRings.{old_entry}
use Rattle.loop_points.proofs.NextLevel.{old_ring_is, old_mask, next_same, length_valences, wide_ring, length_rings, length_points}

three : {x y z x' y' z' : ℤ} → x ≡ x' → y ≡ y' → z ≡ z' → x ∷ y ∷ z ∷ [] ≡ x' ∷ y' ∷ z' ∷ []
three a b c = rw (a, b, c)

same_valence : (vs vs' rs : List ℕ) (v : ℕ) → get_or vs' v 0 ≡ get_or vs v 0 → ring_of (lent vs' rs) v ≡ ring_of (lent vs rs) v
unfolding ring_of
same_valence vs vs' rs v e = rw e

-- ---- the tables with the next level's first vertices

-- the second tables are the first with k vertices of the next level written
pub record Done (n k : ℕ) (t : Lent) (ps : List ℤ) (t' : Lent) (ps' : List ℤ) : Type 0 where
  pub valences : t'.valences ≡ valences_up_to n k t
  pub rings : t'.rings ≡ rings_up_to n k t
  pub positions : ps' ≡ positions_up_to n k t ps

pub done_none : (n : ℕ) (t : Lent) (ps : List ℤ) → Done n 0 t ps t ps
unfolding valences_up_to rings_up_to positions_up_to valence_rows ring_rows point_rows
done_none n t ps = record { valences = sym (put_nothing t.valences n); rings = sym (put_nothing t.rings (n * 32)); positions = sym (put_nothing ps (n * 3)) }

module _ {n k : ℕ} {t : Lent} {ps : List ℤ} (L : Levels n t ps) {t' : Lent} {ps' : List ℤ} (d : Done n k t ps t' ps') (most : k ≤ n + edges (rows n t)) where
  abbrev M : Mesh
  M = rows n t

  abbrev S : Sound (rows n t)
  S = L.ready.sound

  room_valences : n + length (valence_rows (refine M).ring k) ≤ length t.valences
  room_valences = let e = length_valences M S k in let r = L.ready.room.valences in omega arith

  room_rings : n * 32 + length (ring_rows (refine M).ring k) ≤ length t.rings
  room_rings = let e = length_rings M S k in let r = L.ready.room.rings in omega arith

  room_points : n * 3 + length (point_rows (next_point M ps) k) ≤ length ps
  room_points = let e = length_points (next_point M ps) k in let r = L.points in omega arith

  -- the tables keep their lengths, and this level's rows and points
  pub done_valence_count : length t'.valences ≡ length t.valences
  unfolding valences_up_to
  done_valence_count = ap length d.valences ∙ length_put t.valences n (valence_rows (refine M).ring k) room_valences

  pub done_ring_count : length t'.rings ≡ length t.rings
  unfolding rings_up_to
  done_ring_count = ap length d.rings ∙ length_put t.rings (n * 32) (ring_rows (refine M).ring k) room_rings

  pub done_point_count : length ps' ≡ length ps
  unfolding positions_up_to
  done_point_count = ap length d.positions ∙ length_put ps (n * 3) (point_rows (next_point M ps) k) room_points

  pub done_valence : (v : ℕ) → v < n → valence_at t' v ≡ valence_at t v
  unfolding valences_up_to
  done_valence v l = ap (λ (told : List ℕ). get_or told v 0) d.valences ∙ put_before t.valences n (valence_rows (refine M).ring k) room_valences 0 v l

  pub done_ring : (v : ℕ) → v < n → ring_of t' v ≡ ring_of t v
  unfolding rings_up_to
  done_ring v l =
      same_valence t.valences t'.valences t'.rings v (done_valence v l) ∙ ap (λ (told : List ℕ). ring_of (lent t.valences told) v) d.rings
      ∙ ring_kept t (n * 32) (ring_rows (refine M).ring k) room_rings v (let m = L.ready.most v l in omega arith)

  pub done_rows : rows n t' ≡ rows n t
  done_rows = rows_kept n t t' done_valence done_ring

  pub done_start : (p : ℕ) → start_of n t' p ≡ start_of n t p
  unfolding start_of
  done_start p = ap (λ (N : Mesh). start (up N) p) done_rows

  done_coordinate : (axis v : ℕ) → axis < 3 → v < n → coordinate_at ps' axis v ≡ coordinate_at ps axis v
  unfolding positions_up_to coordinate_at
  done_coordinate axis v a l =
      ap (λ (told : List ℤ). get_or told (v * 3 + axis) (pos 0)) d.positions
      ∙ put_before ps (n * 3) (point_rows (next_point M ps) k) room_points (pos 0) (v * 3 + axis) (omega arith)

  pub done_levels : Levels n t' ps'
  done_levels =
      let e : edges (rows n t') ≡ edges M = ap edges done_rows in
      let a = done_valence_count in
      let b = done_ring_count in
      let c = done_point_count in
      let r = L.ready in
      let x = r.room.valences in
      let y = r.room.rings in
      let f = r.fits in
      let g = L.near.points in
      let h = L.points in
      record {
        ready = record {
          room = record { valences = omega arith; rings = omega arith };
          most = λ v l. rw (done_valence v l) (r.most v l);
          sound = subst Sound (sym done_rows) S;
          fits = omega arith;
        };
        near = record { points = omega arith; near = λ v l axis i. subst InRange (sym (done_coordinate axis v i l)) (L.near.near v l axis i) };
        points = omega arith;
      }

  -- the points of the next level are taken from this level's, which are as they were
  done_next : (axis x : ℕ) → axis < 3 → x < n + edges M → next_point M ps' axis x ≡ next_point M ps axis x
  unfolding next_point rows
  done_next axis x a h = next_same M S x h (coordinate_at ps' axis) (coordinate_at ps axis) (λ v l. done_coordinate axis v a l)

  done_point : (μ : Mask) (x : ℕ) → μ ≡ loop_mask M x → x < n + edges M → coordinates (point_by μ ps') ≡ next_point M ps 0 x ∷ next_point M ps 1 x ∷ next_point M ps 2 x ∷ []
  unfolding point_by next_point
  done_point μ x e h = rw e (three (done_next 0 x (omega arith) h) (done_next 1 x (omega arith) h) (done_next 2 x (omega arith) h))

  -- the old vertices among those that are written have their rings
  pub done_has : (j : ℕ) → j ≤ k → j ≤ n → HasOld n t' j
  unfolding rings_up_to ring_rows rows
  done_has j a b = record {
    place = λ u l i m.
        let h : u < n = omega arith in
        let v : i < valence_at t u = rw (done_valence u h) at m in
        let w : valence_at t u ≤ 32 = L.ready.most u h in
        let c : length (ring_of t u) ≡ valence_at t u = ready_length L.ready h in
        let q : M.ring u ≡ ring_of t u = rows_ring n t u h in
        let o : length ((refine M).ring u) ≡ length (M.ring u) = old_valence M S u h in
        let f : ℕ → List ℕ = λ x. padded ((refine M).ring x) in
        let s : length (gather f k) ≡ k * 32 = length_gather f 32 (wide_ring M S k) k in
        ap (λ (told : List ℕ). get_or told ((n + u) * 32 + i) 0) d.rings
        ∙ ap (λ (x : ℕ). get_or (put t.rings (n * 32) (gather f k)) x 0) (let z : (n + u) * 32 + i ≡ n * 32 + (u * 32 + i) = omega arith in z)
        ∙ put_within t.rings (n * 32) (gather f k) room_rings 0 (u * 32 + i) (omega arith)
        ∙ gather_at f 32 (wide_ring M S k) k u i 0 (omega arith) (omega arith)
        ∙ padded_at ((refine M).ring u) i (let z = ap length q in omega arith)
        ∙ ap (λ (told : List ℕ). get_or told i 0) (old_ring_is M S u h)
        ∙ old_entry L.ready h i v
        ∙ sym (ap₂ (λ (N : Mesh) (told : List ℕ). mid N u (get_or told i 0)) done_rows (done_ring u h));
  }

  -- ---- writing further, from these tables or from the first, is the same

  module _ (k' : ℕ) (later : k ≤ k') (most' : k' ≤ n + edges (rows n t)) where
    again_valences : valences_up_to n k' t' ≡ valences_up_to n k' t
    unfolding valences_up_to
    again_valences =
        let e = length_valences M S k in
        let e' = length_valences M S k' in
        let r = L.ready.room.valences in
        ap (λ (N : Mesh). put t'.valences n (valence_rows (refine N).ring k')) done_rows
        ∙ ap (λ (told : List ℕ). put told n (valence_rows (refine M).ring k')) d.valences
        ∙ put_over 0 t.valences n (valence_rows (refine M).ring k) (valence_rows (refine M).ring k') (omega arith) (omega arith)

    again_rings : rings_up_to n k' t' ≡ rings_up_to n k' t
    unfolding rings_up_to
    again_rings =
        let e = length_rings M S k in
        let e' = length_rings M S k' in
        let r = L.ready.room.rings in
        ap (λ (N : Mesh). put t'.rings (n * 32) (ring_rows (refine N).ring k')) done_rows
        ∙ ap (λ (told : List ℕ). put told (n * 32) (ring_rows (refine M).ring k')) d.rings
        ∙ put_over 0 t.rings (n * 32) (ring_rows (refine M).ring k) (ring_rows (refine M).ring k') (omega arith) (omega arith)

    same_points : point_rows (next_point M ps') k' ≡ point_rows (next_point M ps) k'
    unfolding point_rows
    same_points = gather_same _ _ k' (λ x l. three (done_next 0 x (omega arith) (omega arith)) (done_next 1 x (omega arith) (omega arith)) (done_next 2 x (omega arith) (omega arith)))

    again_positions : positions_up_to n k' t' ps' ≡ positions_up_to n k' t ps
    unfolding positions_up_to
    again_positions =
        let e = length_points (next_point M ps) k in
        let e' = length_points (next_point M ps) k' in
        let r = L.points in
        ap (λ (N : Mesh). put ps' (n * 3) (point_rows (next_point N ps') k')) done_rows
        ∙ ap₂ (λ (told b : List ℤ). put told (n * 3) b) d.positions same_points
        ∙ put_over (pos 0) ps (n * 3) (point_rows (next_point M ps) k) (point_rows (next_point M ps) k') (omega arith) (omega arith)

    pub done_again : {t'' : Lent} {ps'' : List ℤ} → Done n k' t' ps' t'' ps'' → Done n k' t ps t'' ps''
    done_again f = record { valences = f.valences ∙ again_valences; rings = f.rings ∙ again_rings; positions = f.positions ∙ again_positions }

  pub done_up_to : UpTo n k t' ps'
  done_up_to = record {
    valences = d.valences ∙ sym (again_valences k (omega arith) most);
    rings = d.rings ∙ sym (again_rings k (omega arith) most);
    positions = d.positions ∙ sym (again_positions k (omega arith) most);
  }

  -- ---- one vertex more

  module _ (less : k < n + edges (rows n t)) {t'' : Lent} {ps'' : List ℤ} where
    done_more : t''.valences ≡ put t'.valences (n + k) (length ((refine M).ring k) ∷ []) → t''.rings ≡ put t'.rings ((n + k) * 32) (padded ((refine M).ring k))
        → ps'' ≡ put ps' ((n + k) * 3) (next_point M ps 0 k ∷ next_point M ps 1 k ∷ next_point M ps 2 k ∷ []) → Done n (k + 1) t ps t'' ps''
    unfolding valences_up_to rings_up_to positions_up_to valence_rows ring_rows point_rows
    done_more a b c =
        let x = length_valences M S k in
        let y = length_rings M S k in
        let w = wide_ring M S k k in
        let z = length_points (next_point M ps) k in
        let p = L.ready.room.valences in
        let q = L.ready.room.rings in
        let r = L.points in
        record {
          valences = a ∙ ap (λ (told : List ℕ). put told (n + k) (length ((refine M).ring k) ∷ [])) d.valences
              ∙ gather_step (λ v. length ((refine M).ring v) ∷ []) t.valences n k (n + k) (omega arith) (omega arith);
          rings = b ∙ ap (λ (told : List ℕ). put told ((n + k) * 32) (padded ((refine M).ring k))) d.rings
              ∙ gather_step (λ v. padded ((refine M).ring v)) t.rings (n * 32) k ((n + k) * 32) (omega arith) (omega arith);
          positions = c ∙ ap (λ (told : List ℤ). put told ((n + k) * 3) (next_point M ps 0 k ∷ next_point M ps 1 k ∷ next_point M ps 2 k ∷ [])) d.positions
              ∙ gather_step (λ v. next_point M ps 0 v ∷ next_point M ps 1 v ∷ next_point M ps 2 v ∷ []) ps (n * 3) k ((n + k) * 3) (omega arith) (omega arith);
        }

    -- an old one
    pub done_old : k < n → (point : Point) → point ≡ point_by (vertex_mask k (ring_of t' k)) ps' → t''.valences ≡ set t'.valences (n + k) (valence_at t' k)
        → t''.rings ≡ put t'.rings ((n + k) * 32) (padded (old_ring (rows n t') k)) → ps'' ≡ put ps' ((n + k) * 3) (coordinates point) → Done n (k + 1) t ps t'' ps''
    unfolding rows
    done_old l point e a b c =
        let q : M.ring k ≡ ring_of t k = rows_ring n t k l in
        let v : valence_at t' k ≡ length ((refine M).ring k) = done_valence k l ∙ sym (old_valence M S k l ∙ ap length q ∙ ready_length L.ready l) in
        let told = done_valence_count in
        let s = L.ready.room.valences in
        let μ : vertex_mask k (ring_of t' k) ≡ loop_mask M k = ap (vertex_mask k) (done_ring k l ∙ sym q) ∙ sym (old_mask M S k l) in
        done_more
        (a ∙ put_one t'.valences (n + k) (valence_at t' k) (omega arith) ∙ ap (λ (x : ℕ). put t'.valences (n + k) (x ∷ [])) v)
        (b ∙ ap (λ (r : List ℕ). put t'.rings ((n + k) * 32) (padded r)) (ap (λ (N : Mesh). old_ring N k) done_rows ∙ sym (old_ring_is M S k l)))
        (c ∙ ap (put ps' ((n + k) * 3)) (ap coordinates e ∙ done_point (vertex_mask k (ring_of t' k)) k μ less))

-- ---- the same by a number that is equal

pub done_at : {n k k' : ℕ} {t : Lent} {ps : List ℤ} {t' : Lent} {ps' : List ℤ} → k ≡ k' → Done n k t ps t' ps' → Done n k' t ps t' ps'
done_at {n} {k} {k'} {t} {ps} {t'} {ps'} e d = subst (λ (x : ℕ). Done n x t ps t' ps') e d

-- ---- where vertex x of the next level goes

pub record Spot (n x : ℕ) (t : Lent) (ps : List ℤ) : Type 0 where
  pub small : n + x ≤ 131070
  pub valence : n + x < length t.valences
  pub row : (n + x) * 32 + 32 ≤ length t.rings
  pub point : (n + x) * 3 + 3 ≤ length ps

pub spot : {n : ℕ} {t : Lent} {ps : List ℤ} → Levels n t ps → (x : ℕ) → x < n + edges (rows n t) → Spot n x t ps
spot L x h =
    let a = L.ready.fits in
    let b = L.ready.room.valences in
    let c = L.ready.room.rings in
    let d = L.points in
    record { small = omega arith; valence = omega arith; row = omega arith; point = omega arith }
