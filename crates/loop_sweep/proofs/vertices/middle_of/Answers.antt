-- `middle_of` meets its contract. Assumes nothing.
use Prim.Native.Nat.{ℕ, ◌<◌}
use mathlib.Core.Path.{sym, ap, subst, ◌∙◌}
use mathlib.Core.List.{List}
use lib.ListN.{get_or}
use native.Mathlib.Omega.{arith}
use Rattle.mesh.specs.Ring.{◌∈◌, place}
use Rattle.rings.specs.Table.{lent}
use Rattle.loop_points.proofs.Mids.{ready_row, ready_place, neighbour_lt, counted_small, p_there, back_place, copied_mid}
use Rattle.loop_halves.proofs.OneEdge.{row_is_ring}
use Rattle.loop_sweep.proofs.Whole.{numbered}
use Rattle.loop_sweep.proofs.vertices.middle_of.Goals as goal

pub row_of-ring-requires : goal.row_of-ring-requires
row_of-ring-requires c =
    let r = c.requires.ready in
    let h = c.requires.p_lt_count in
    let p = c.args.p in
    let k = c.args.k in
    let l : k < get_or c.args.valences.now p 0 = omega arith in
    let m = r.most p h in
    let b = r.room.rings in
    record { p_le_stack_bound = omega arith; n_in_bounds = omega arith }

pub overflow_cast-q : goal.overflow_cast-q
overflow_cast-q c = omega (arith, c.type_inv.ring c.args.k)

pub overflow_add-result : goal.overflow_add-result
overflow_add-result c =
    let r = c.requires.ready in
    let h = c.requires.p_lt_count in
    let p = c.args.p in
    let k = c.args.k in
    let l : k < get_or c.args.valences.now p 0 = omega arith in
    let t = row_is_ring (lent c.args.valences.now c.args.rings.now) p c.args.n c.requires.n_value c.row_of-ring.ensures.result_value in
    let e = ap (λ (x : List ℕ). get_or x k 0) t in
    omega (arith, counted_small r p k h l _ e c.if-p-q.true _ c.requires.start_value)

pub overflow_add-result-then-p-q : goal.overflow_add-result-then-p-q
overflow_add-result-then-p-q c =
    let r = c.requires.ready in
    let h = c.requires.p_lt_count in
    let p = c.args.p in
    let k = c.args.k in
    let l : k < get_or c.args.valences.now p 0 = omega arith in
    let t = row_is_ring (lent c.args.valences.now c.args.rings.now) p c.args.n c.requires.n_value c.row_of-ring.ensures.result_value in
    let e = ap (λ (x : List ℕ). get_or x k 0) t in
    omega (arith, counted_small r p k h l _ e c.if-p-q.true _ c.requires.start_value, c.count_below.ensures.upper_bound, c.row_of-ring.ensures.result_len, r.most p h)

pub overflow_sub-result : goal.overflow_sub-result
overflow_sub-result c =
    let r = c.requires.ready in
    let h = c.requires.p_lt_count in
    let p = c.args.p in
    let k = c.args.k in
    let l : k < get_or c.args.valences.now p 0 = omega arith in
    let t = row_is_ring (lent c.args.valences.now c.args.rings.now) p c.args.n c.requires.n_value c.row_of-ring.ensures.result_value in
    let e = ap (λ (x : List ℕ). get_or x k 0) t in
    omega (arith, (numbered r p k h l _ e c.if-p-q.true _ t _ _ _ c.requires.start_value c.count_below.ensures.value c.requires.low_value).0)

pub returns-then-p-q : goal.returns-then-p-q
returns-then-p-q c =
    let t = let r = c.requires.ready in
    let h = c.requires.p_lt_count in
    let p = c.args.p in
    let k = c.args.k in
    let l : k < get_or c.args.valences.now p 0 = omega arith in
    let t = row_is_ring (lent c.args.valences.now c.args.rings.now) p c.args.n c.requires.n_value c.row_of-ring.ensures.result_value in
    let e = ap (λ (x : List ℕ). get_or x k 0) t in
    (numbered r p k h l _ e c.if-p-q.true _ t _ _ _ c.requires.start_value c.count_below.ensures.value c.requires.low_value).1 in
    record { value = t.0; upper_bound = t.1 }

pub ring_of-requires : goal.ring_of-requires
ring_of-requires c =
    let r = c.requires.ready in
    let h = c.requires.p_lt_count in
    let p = c.args.p in
    let k = c.args.k in
    let l : k < get_or c.args.valences.now p 0 = omega arith in
    let t = row_is_ring (lent c.args.valences.now c.args.rings.now) p c.args.n c.requires.n_value c.row_of-ring.ensures.result_value in
    let e = ap (λ (x : List ℕ). get_or x k 0) t in
    ready_row r (neighbour_lt r p k h l _ e)

pub seek_known-j-requires : goal.seek_known-j-requires
seek_known-j-requires c =
    let r = c.requires.ready in
    let h = c.requires.p_lt_count in
    let p = c.args.p in
    let k = c.args.k in
    let l : k < get_or c.args.valences.now p 0 = omega arith in
    let t = row_is_ring (lent c.args.valences.now c.args.rings.now) p c.args.n c.requires.n_value c.row_of-ring.ensures.result_value in
    let e = ap (λ (x : List ℕ). get_or x k 0) t in
    subst (λ (x : List ℕ). p ∈ x) (sym c.ring_of.ensures.result_value) (p_there r p k h l _ e)

pub overflow_add-result-3 : goal.overflow_add-result-3
overflow_add-result-3 c =
    let r = c.requires.ready in
    let h = c.requires.p_lt_count in
    let p = c.args.p in
    let k = c.args.k in
    let l : k < get_or c.args.valences.now p 0 = omega arith in
    let t = row_is_ring (lent c.args.valences.now c.args.rings.now) p c.args.n c.requires.n_value c.row_of-ring.ensures.result_value in
    let e = ap (λ (x : List ℕ). get_or x k 0) t in
    let f = c.seek_known-j.ensures ∙ ap (place p) c.ring_of.ensures.result_value in
    omega (arith, ready_place r _ _ (neighbour_lt r p k h l _ e) (back_place r p k h l _ e _ f))

pub offset_bounds-rings-count : goal.offset_bounds-rings-count
offset_bounds-rings-count c =
    let r = c.requires.ready in
    let h = c.requires.p_lt_count in
    let p = c.args.p in
    let k = c.args.k in
    let l : k < get_or c.args.valences.now p 0 = omega arith in
    let t = row_is_ring (lent c.args.valences.now c.args.rings.now) p c.args.n c.requires.n_value c.row_of-ring.ensures.result_value in
    let e = ap (λ (x : List ℕ). get_or x k 0) t in
    let f = c.seek_known-j.ensures ∙ ap (place p) c.ring_of.ensures.result_value in
    omega (arith, ready_place r _ _ (neighbour_lt r p k h l _ e) (back_place r p k h l _ e _ f))

pub bounds-rings-count : goal.bounds-rings-count
bounds-rings-count c =
    let r = c.requires.ready in
    let h = c.requires.p_lt_count in
    let p = c.args.p in
    let k = c.args.k in
    let l : k < get_or c.args.valences.now p 0 = omega arith in
    let t = row_is_ring (lent c.args.valences.now c.args.rings.now) p c.args.n c.requires.n_value c.row_of-ring.ensures.result_value in
    let e = ap (λ (x : List ℕ). get_or x k 0) t in
    let f = c.seek_known-j.ensures ∙ ap (place p) c.ring_of.ensures.result_value in
    ready_place r _ _ (neighbour_lt r p k h l _ e) (back_place r p k h l _ e _ f)

pub overflow_cast-result-2 : goal.overflow_cast-result-2
overflow_cast-result-2 c =
    let r = c.requires.ready in
    let h = c.requires.p_lt_count in
    let p = c.args.p in
    let k = c.args.k in
    let l : k < get_or c.args.valences.now p 0 = omega arith in
    let t = row_is_ring (lent c.args.valences.now c.args.rings.now) p c.args.n c.requires.n_value c.row_of-ring.ensures.result_value in
    let e = ap (λ (x : List ℕ). get_or x k 0) t in
    let f = c.seek_known-j.ensures ∙ ap (place p) c.ring_of.ensures.result_value in
    omega (arith, (copied_mid r p k h l _ e _ f c.if-p-q.false c.requires.has_old).1)

pub returns : goal.returns
returns c =
    let t = let r = c.requires.ready in
    let h = c.requires.p_lt_count in
    let p = c.args.p in
    let k = c.args.k in
    let l : k < get_or c.args.valences.now p 0 = omega arith in
    let t = row_is_ring (lent c.args.valences.now c.args.rings.now) p c.args.n c.requires.n_value c.row_of-ring.ensures.result_value in
    let e = ap (λ (x : List ℕ). get_or x k 0) t in
    let f = c.seek_known-j.ensures ∙ ap (place p) c.ring_of.ensures.result_value in
    copied_mid r p k h l _ e _ f c.if-p-q.false c.requires.has_old in
    record { value = t.0; upper_bound = t.1 }
