-- `write_point` meets its contract. Assumes nothing.
use Prim.Native.Nat.{ℕ, ◌+◌, ◌*◌, ◌<◌}
use mathlib.Core.Path.{refl, ap, ◌∙◌}
use mathlib.Core.List.{List}
use lib.ListN.{get_or}
use native.Mathlib.Omega.{arith}
use Rattle.loop_points.proofs.Mids.{ready_place}
use Rattle.loop_points.proofs.PointSums.{ring_all_below, new_point_is}
use Rattle.rings.specs.Table.{lent, put}
use Rattle.units.specs.declared.Point.{Point}
use Rattle.loop_points.specs.Level.{coordinates}
use Rattle.loop_halves.proofs.OneEdge.{edge_row, edge_point_room, row_is_ring, point_written, no_point}
use Rattle.loop_halves.proofs.edges.write_point.Goals as goal

pub row_of-ring-requires : goal.row_of-ring-requires
row_of-ring-requires c =
    let L = c.requires.levels in
    let h = c.requires.p_lt_count in
    let l : c.args.k < get_or c.args.valences.now c.args.p 0 = omega arith in
    let m = L.ready.most c.args.p h in
    let b = L.ready.room.rings in
    record { p_le_stack_bound = omega arith; n_in_bounds = omega arith }

pub overflow_cast-ring : goal.overflow_cast-ring
overflow_cast-ring c = omega (arith, c.type_inv.ring c.args.k)

pub returns-then-ring-k : goal.returns-then-ring-k
returns-then-ring-k c =
    let L = c.requires.levels in
    let h = c.requires.p_lt_count in
    let l : c.args.k < get_or c.args.valences.now c.args.p 0 = omega arith in
    let r = row_is_ring (lent c.args.valences.now c.args.rings.now) c.args.p c.args.n c.requires.n_value c.row_of-ring.ensures.result_value in
    let e = ap (λ t. get_or t c.args.k 0) r in
    no_point L c.args.p c.args.k h l (omega (arith, e, c.if-ring-k.true))

pub overflow_add-x-2 : goal.overflow_add-x-2
overflow_add-x-2 c =
    let L = c.requires.levels in
    let h = c.requires.p_lt_count in
    let l : c.args.k < get_or c.args.valences.now c.args.p 0 = omega arith in
    omega (arith, ready_place L.ready c.args.p c.args.k h l)

pub offset_bounds-rings-count : goal.offset_bounds-rings-count
offset_bounds-rings-count c =
    let L = c.requires.levels in
    let h = c.requires.p_lt_count in
    let l : c.args.k < get_or c.args.valences.now c.args.p 0 = omega arith in
    omega (arith, ready_place L.ready c.args.p c.args.k h l)

pub bounds-rings-count : goal.bounds-rings-count
bounds-rings-count c =
    let L = c.requires.levels in
    let h = c.requires.p_lt_count in
    let l : c.args.k < get_or c.args.valences.now c.args.p 0 = omega arith in
    ready_place L.ready c.args.p c.args.k h l

pub overflow_cast-x : goal.overflow_cast-x
overflow_cast-x c = let s = c.args in omega (arith, c.type_inv.rings ((s.count + s.p) * 32 + s.k))

pub edge_point_at-point-requires : goal.edge_point_at-point-requires
edge_point_at-point-requires c =
    let L = c.requires.levels in
    let h = c.requires.p_lt_count in
    let l : c.args.k < get_or c.args.valences.now c.args.p 0 = omega arith in
    let e = row_is_ring (lent c.args.valences.now c.args.rings.now) c.args.p c.args.n c.requires.n_value c.row_of-ring.ensures.result_value in
    let below = ring_all_below L.ready h c.row_of-ring.result.now e in
    record { near = L.near; count_le_most_vertices = omega (arith, L.ready.fits); all_below = below; p_lt_count = h; here_value = c.requires.here_value; i_in_bounds = omega (arith, c.row_of-ring.ensures.result_len) }

pub overflow_add-count : goal.overflow_add-count
overflow_add-count c =
    let L = c.requires.levels in
    let h = c.requires.p_lt_count in
    let l : c.args.k < get_or c.args.valences.now c.args.p 0 = omega arith in
    omega (arith, (edge_row L.ready c.args.p c.args.k h l _ (c.requires.has_old.place c.args.p h c.args.k l)).0)

pub set_point-requires : goal.set_point-requires
set_point-requires c =
    let L = c.requires.levels in
    let h = c.requires.p_lt_count in
    let l : c.args.k < get_or c.args.valences.now c.args.p 0 = omega arith in
    record { v_le_stack_bound = omega (arith, (edge_row L.ready c.args.p c.args.k h l _ (c.requires.has_old.place c.args.p h c.args.k l)).0); v_in_bounds = edge_point_room L c.args.p c.args.k h l _ (c.requires.has_old.place c.args.p h c.args.k l) }

pub returns : goal.returns
returns c =
    let L = c.requires.levels in
    let h = c.requires.p_lt_count in
    let l : c.args.k < get_or c.args.valences.now c.args.p 0 = omega arith in
    let ring = c.row_of-ring.result.now in
    let e =
    row_is_ring (lent c.args.valences.now c.args.rings.now) c.args.p c.args.n c.requires.n_value
    c.row_of-ring.ensures.result_value in
    let f = ap (λ (t : List ℕ). get_or t c.args.k 0) e in
    let g =
    c.edge_point_at-point.ensures.value
    ∙ new_point_is L.ready h ring e c.args.positions.now c.args.k _ _
    (omega (arith, c.row_of-ring.ensures.result_len)) refl refl in
    point_written L c.args.p c.args.k h l _ (c.requires.has_old.place c.args.p h c.args.k l) (omega (arith, f, c.if-ring-k.false))
    (c.set_point.ensures ∙ ap (λ (z : Point). put c.args.positions.now ((c.args.count + get_or c.args.rings.now ((c.args.count + c.args.p) * 32 + c.args.k) 0) * 3) (coordinates z)) g)
