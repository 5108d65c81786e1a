-- `write_vertex` meets its contract. Assumes nothing.
use Prim.Native.Nat.{ℕ, suc, ◌+◌, ◌-◌, ◌*◌, ◌≤◌, ◌<◌}
use mathlib.Core.Path.{◌≡◌, refl, sym, ap, ◌∙◌}
use mathlib.Core.List.{List}
use lib.IntN.{ℤ}
use lib.ListN.{length, take, drop}
use native.Mathlib.Omega.{arith}
use Rattle.mesh.specs.Limits.{most_valence, most_vertices, stack_bound}
use Rattle.mesh.specs.Numbering.{below}
use Rattle.loop_step.specs.Loop.{vertex_mask}
use Rattle.units.specs.declared.Point.{Point}
use Rattle.rings.specs.Table.{Lent, valence_at, put, ring_of}
use Rattle.loop_points.specs.Level.{Levels, AllBelow, start_of, point_by, coordinates}
use Rattle.loop_points.proofs.NextLevel.{start_most}
use Rattle.loop_points.proofs.PointSums.{ring_all_below, ready_least}
use Rattle.loop_halves.proofs.OneEdge.{row_is_ring}
use Rattle.loop_sweep.proofs.Done.{Spot, spot}
use Rattle.loop_sweep.proofs.Whole.{next_start, low_is}
use Rattle.loop_sweep.proofs.write.write_vertex.Goals as goal

-- ---- what both ways go by: of valence 6, and of the others

module _ {count p : ℕ} {t : Lent} {ps : List ℤ} (L : Levels count t ps) (p_lt : p < count) where
  -- the tables have room for p on the next level
  room : Spot count p t ps
  room = spot L p (omega (arith, p_lt))

  -- n is p's valence
  module _ {n : ℕ} (e : n ≡ valence_at t p) where
    row_low : p ≤ stack_bound
    row_low = omega (arith, p_lt, L.ready.fits)

    row_there : p * most_valence + n ≤ length t.rings
    row_there = omega (arith, p_lt, e, L.ready.most p p_lt, L.ready.room.rings)

    start_small : {start : ℕ} → start ≡ start_of count t p → start + n ≤ most_vertices + most_valence
    start_small {start} start_is = omega (arith, start_most count t L.ready.sound p (omega (arith, p_lt)), e, L.ready.most p p_lt, L.ready.fits, start_is)

    -- the row is p's ring
    module _ {ring : List ℕ} (f : ring ≡ take n (drop (p * most_valence) t.rings)) where
      is_ring : ring ≡ ring_of t p
      is_ring = row_is_ring t p n e f

      ring_least : length ring ≡ n → 3 ≤ length ring
      ring_least l = omega (arith, l, e, ready_least L.ready p_lt)

      ring_most : length ring ≡ n → length ring ≤ most_valence
      ring_most l = omega (arith, l, e, L.ready.most p p_lt)

      ring_below : AllBelow count ring
      ring_below = ring_all_below L.ready p_lt ring is_ring

      point_done : {z : Point} {y : List ℤ} → z ≡ point_by (vertex_mask p ring) ps → y ≡ put ps ((count + p) * 3) (coordinates z)
          → y ≡ put ps ((count + p) * 3) (coordinates (point_by (vertex_mask p (ring_of t p)) ps))
      point_done a b =
          b ∙ ap (λ (z : Point). put ps ((count + p) * 3) (coordinates z)) (a ∙ ap (λ (y : List ℕ). point_by (vertex_mask p y) ps) is_ring)

      low_value : {low : ℕ} → low ≡ below (p + 1) ring → low ≡ below (suc p) (ring_of t p)
      low_value {low} g = low_is p low ring _ is_ring g

      next : {start low : ℕ} → start ≡ start_of count t p → low ≡ below (p + 1) ring → (low ≤ start + n) × (start + n - low ≡ start_of count t (p + 1))
      next {start} {low} start_is g = next_start L.ready p p_lt start n low ring start_is e is_ring g

pub overflow_cast-n : goal.overflow_cast-n
overflow_cast-n c = omega (arith, c.type_inv.valences c.args.p)

-- ---- the way of valence 6

pub row_of-requires : goal.row_of-requires
row_of-requires c =
    let L = c.requires.levels in
    let h = c.requires.p_lt_count in
    record { p_le_stack_bound = row_low L h (sym c.if-n-eq6.true); n_in_bounds = row_there L h (sym c.if-n-eq6.true) }

pub row_of-requires-then-n-eq6 : goal.row_of-requires-then-n-eq6
row_of-requires-then-n-eq6 c =
    let L = c.requires.levels in
    let h = c.requires.p_lt_count in
    record { p_le_stack_bound = row_low L h (sym c.if-n-eq6.true); n_in_bounds = row_there L h (sym c.if-n-eq6.true) }

pub ring_point-point-requires : goal.ring_point-point-requires
ring_point-point-requires c =
    let L = c.requires.levels in
    let h = c.requires.p_lt_count in
    let six = sym c.if-n-eq6.true in
    let d = c.row_of-then-n-eq6.ensures in
    record {
      near = L.near;
      count_le_most_vertices = omega (arith, L.ready.fits);
      in_bounds = ring_least L h six d.result_value d.result_len;
      ring_len_bound = ring_most L h six d.result_value d.result_len;
      all_below = ring_below L h six d.result_value;
      v_lt_count = h;
    }

pub overflow_add-count : goal.overflow_add-count
overflow_add-count c = omega (arith, (room c.requires.levels c.requires.p_lt_count).small)

pub set_point-requires : goal.set_point-requires
set_point-requires c =
    let z = room c.requires.levels c.requires.p_lt_count in
    record { v_le_stack_bound = omega (arith, z.small); v_in_bounds = z.point }

pub write_old_ring-requires : goal.write_old_ring-requires
write_old_ring-requires c =
    let L = c.requires.levels in
    let h = c.requires.p_lt_count in
    let six = sym c.if-n-eq6.true in
    record {
      ready = L.ready;
      p_lt_count = h;
      n_value = six;
      start_value = c.requires.start_value;
      low_value = low_value L h six c.row_of.ensures.result_value c.count_below-low.ensures.value;
      has_old = c.requires.has_old;
    }

pub overflow_add-result : goal.overflow_add-result
overflow_add-result c = omega (arith, start_small c.requires.levels c.requires.p_lt_count (sym c.if-n-eq6.true) c.requires.start_value)

pub overflow_sub-result : goal.overflow_sub-result
overflow_sub-result c =
    (next c.requires.levels c.requires.p_lt_count (sym c.if-n-eq6.true) c.row_of.ensures.result_value c.requires.start_value c.count_below-low.ensures.value).0

pub returns-then-n-eq6 : goal.returns-then-n-eq6
returns-then-n-eq6 c =
    let L = c.requires.levels in
    let h = c.requires.p_lt_count in
    let six = sym c.if-n-eq6.true in
    record {
      value = (next L h six c.row_of.ensures.result_value c.requires.start_value c.count_below-low.ensures.value).1;
      rings_after = c.write_old_ring.ensures;
      positions_after = point_done L h six c.row_of-then-n-eq6.ensures.result_value c.ring_point-point.ensures.value c.set_point.ensures;
    }

-- ---- the way of the other valences

pub row_of-requires-2 : goal.row_of-requires-2
row_of-requires-2 c =
    let L = c.requires.levels in
    let h = c.requires.p_lt_count in
    record { p_le_stack_bound = row_low L h refl; n_in_bounds = row_there L h refl }

pub row_of-requires-3 : goal.row_of-requires-3
row_of-requires-3 c =
    let L = c.requires.levels in
    let h = c.requires.p_lt_count in
    record { p_le_stack_bound = row_low L h refl; n_in_bounds = row_there L h refl }

pub ring_point-point-requires-2 : goal.ring_point-point-requires-2
ring_point-point-requires-2 c =
    let L = c.requires.levels in
    let h = c.requires.p_lt_count in
    let d = c.row_of-3.ensures in
    record {
      near = L.near;
      count_le_most_vertices = omega (arith, L.ready.fits);
      in_bounds = ring_least L h refl d.result_value d.result_len;
      ring_len_bound = ring_most L h refl d.result_value d.result_len;
      all_below = ring_below L h refl d.result_value;
      v_lt_count = h;
    }

pub overflow_add-count-2 : goal.overflow_add-count-2
overflow_add-count-2 c = omega (arith, (room c.requires.levels c.requires.p_lt_count).small)

pub set_point-requires-2 : goal.set_point-requires-2
set_point-requires-2 c =
    let z = room c.requires.levels c.requires.p_lt_count in
    record { v_le_stack_bound = omega (arith, z.small); v_in_bounds = z.point }

pub write_old_ring-requires-2 : goal.write_old_ring-requires-2
write_old_ring-requires-2 c =
    let L = c.requires.levels in
    let h = c.requires.p_lt_count in
    record {
      ready = L.ready;
      p_lt_count = h;
      n_value = refl;
      start_value = c.requires.start_value;
      low_value = low_value L h refl c.row_of-2.ensures.result_value c.count_below-low-2.ensures.value;
      has_old = c.requires.has_old;
    }

pub overflow_add-result-2 : goal.overflow_add-result-2
overflow_add-result-2 c = omega (arith, start_small c.requires.levels c.requires.p_lt_count refl c.requires.start_value)

pub overflow_sub-result-2 : goal.overflow_sub-result-2
overflow_sub-result-2 c =
    (next c.requires.levels c.requires.p_lt_count refl c.row_of-2.ensures.result_value c.requires.start_value c.count_below-low-2.ensures.value).0

pub returns : goal.returns
returns c =
    let L = c.requires.levels in
    let h = c.requires.p_lt_count in
    record {
      value = (next L h refl c.row_of-2.ensures.result_value c.requires.start_value c.count_below-low-2.ensures.value).1;
      rings_after = c.write_old_ring-2.ensures;
      positions_after = point_done L h refl c.row_of-3.ensures.result_value c.ring_point-point-2.ensures.value c.set_point-2.ensures;
    }
