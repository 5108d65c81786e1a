-- `write_half` meets its contract. Assumes nothing.
use Prim.Native.Nat.{ℕ, ◌+◌, ◌*◌, ◌<◌}
use mathlib.Core.Path.{◌≡◌, ap, ◌∙◌}
use lib.ListN.{get_or}
use native.Mathlib.Omega.{arith}
use Rattle.mesh.specs.Ring.{place_after, place_before}
use Rattle.loop_points.proofs.Mids.{ready_place, ready_entry, old_before, old_after}
use Rattle.loop_halves.proofs.OneEdge.{edge_row, low_written, high_written}
use Rattle.loop_halves.proofs.edges.write_half.Goals as goal

pub overflow_add-x : goal.overflow_add-x
overflow_add-x c =
    let r = c.requires.ready in
    let h = c.requires.p_lt_count in
    let l : c.args.k < get_or c.args.valences.now c.args.p 0 = omega arith in
    omega (arith, ready_place r c.args.p c.args.k h l)

pub offset_bounds-rings-a : goal.offset_bounds-rings-a
offset_bounds-rings-a c =
    let r = c.requires.ready in
    let h = c.requires.p_lt_count in
    let l : c.args.k < get_or c.args.valences.now c.args.p 0 = omega arith in
    omega (arith, ready_place r c.args.p c.args.k h l)

pub bounds-rings-a : goal.bounds-rings-a
bounds-rings-a c =
    let r = c.requires.ready in
    let h = c.requires.p_lt_count in
    let l : c.args.k < get_or c.args.valences.now c.args.p 0 = omega arith in
    ready_place r c.args.p c.args.k h l

pub overflow_cast-x : goal.overflow_cast-x
overflow_cast-x c = let s = c.args in omega (arith, c.type_inv.rings ((s.count + s.p) * 32 + s.k))

pub overflow_add-before : goal.overflow_add-before
overflow_add-before c =
    let r = c.requires.ready in
    let h = c.requires.p_lt_count in
    let l : c.args.k < get_or c.args.valences.now c.args.p 0 = omega arith in
    omega (arith, ready_place r c.args.p c.place_before.result h (omega (arith, c.place_before.ensures.upper_bound)))

pub offset_bounds-rings-a-2 : goal.offset_bounds-rings-a-2
offset_bounds-rings-a-2 c =
    let r = c.requires.ready in
    let h = c.requires.p_lt_count in
    let l : c.args.k < get_or c.args.valences.now c.args.p 0 = omega arith in
    omega (arith, ready_place r c.args.p c.place_before.result h (omega (arith, c.place_before.ensures.upper_bound)))

pub bounds-rings-a-2 : goal.bounds-rings-a-2
bounds-rings-a-2 c =
    let r = c.requires.ready in
    let h = c.requires.p_lt_count in
    let l : c.args.k < get_or c.args.valences.now c.args.p 0 = omega arith in
    ready_place r c.args.p c.place_before.result h (omega (arith, c.place_before.ensures.upper_bound))

pub overflow_add-after : goal.overflow_add-after
overflow_add-after c =
    let r = c.requires.ready in
    let h = c.requires.p_lt_count in
    let l : c.args.k < get_or c.args.valences.now c.args.p 0 = omega arith in
    omega (arith, ready_place r c.args.p c.place_after.result h (omega (arith, c.place_after.ensures.upper_bound)))

pub offset_bounds-rings-a-3 : goal.offset_bounds-rings-a-3
offset_bounds-rings-a-3 c =
    let r = c.requires.ready in
    let h = c.requires.p_lt_count in
    let l : c.args.k < get_or c.args.valences.now c.args.p 0 = omega arith in
    omega (arith, ready_place r c.args.p c.place_after.result h (omega (arith, c.place_after.ensures.upper_bound)))

pub bounds-rings-a-3 : goal.bounds-rings-a-3
bounds-rings-a-3 c =
    let r = c.requires.ready in
    let h = c.requires.p_lt_count in
    let l : c.args.k < get_or c.args.valences.now c.args.p 0 = omega arith in
    ready_place r c.args.p c.place_after.result h (omega (arith, c.place_after.ensures.upper_bound))

pub overflow_add-p : goal.overflow_add-p
overflow_add-p c =
    let r = c.requires.ready in
    let h = c.requires.p_lt_count in
    let l : c.args.k < get_or c.args.valences.now c.args.p 0 = omega arith in
    omega (arith, ready_place r c.args.p c.args.k h l)

pub offset_bounds-rings-p : goal.offset_bounds-rings-p
offset_bounds-rings-p c =
    let r = c.requires.ready in
    let h = c.requires.p_lt_count in
    let l : c.args.k < get_or c.args.valences.now c.args.p 0 = omega arith in
    omega (arith, ready_place r c.args.p c.args.k h l)

pub bounds-rings-p : goal.bounds-rings-p
bounds-rings-p c =
    let r = c.requires.ready in
    let h = c.requires.p_lt_count in
    let l : c.args.k < get_or c.args.valences.now c.args.p 0 = omega arith in
    omega (arith, ready_place r c.args.p c.args.k h l)

pub overflow_cast-rings : goal.overflow_cast-rings
overflow_cast-rings c = let s = c.args in omega (arith, c.type_inv.rings (s.p * 32 + s.k))

pub overflow_add-count : goal.overflow_add-count
overflow_add-count c =
    let r = c.requires.ready in
    let h = c.requires.p_lt_count in
    let l : c.args.k < get_or c.args.valences.now c.args.p 0 = omega arith in
    omega (arith, (edge_row r c.args.p c.args.k h l _ (c.requires.has_old.place c.args.p h c.args.k l)).0)

pub write_low-requires : goal.write_low-requires
write_low-requires c =
    let r = c.requires.ready in
    let h = c.requires.p_lt_count in
    let l : c.args.k < get_or c.args.valences.now c.args.p 0 = omega arith in
    let e = edge_row r c.args.p c.args.k h l _ (c.requires.has_old.place c.args.p h c.args.k l) in
    record { row_le_stack_bound = omega (arith, e.0); most_valence_in_bounds = e.1 }

pub returns-then-p-rings : goal.returns-then-p-rings
returns-then-p-rings c =
    let r = c.requires.ready in
    let h = c.requires.p_lt_count in
    let l : c.args.k < get_or c.args.valences.now c.args.p 0 = omega arith in
    let o = c.requires.has_old in
    let n : c.args.n ≡ get_or c.args.valences.now c.args.p 0 = c.requires.n_value in
    let t = ready_entry r c.args.p c.args.k l in
    low_written r c.args.p c.args.k h l _ _ _ (c.requires.has_old.place c.args.p h c.args.k l)
    (old_before r c.args.p c.args.k h l o c.place_before.result (c.place_before.ensures.value ∙ ap (λ (m : ℕ). place_before m c.args.k) n) (omega (arith, c.place_before.ensures.upper_bound)))
    (old_after r c.args.p c.args.k h l o c.place_after.result (c.place_after.ensures.value ∙ ap (λ (m : ℕ). place_after m c.args.k) n) (omega (arith, c.place_after.ensures.upper_bound)))
    (omega (arith, c.if-p-rings.true)) c.write_low.ensures

pub overflow_add-count-2 : goal.overflow_add-count-2
overflow_add-count-2 c =
    let r = c.requires.ready in
    let h = c.requires.p_lt_count in
    let l : c.args.k < get_or c.args.valences.now c.args.p 0 = omega arith in
    omega (arith, (edge_row r c.args.p c.args.k h l _ (c.requires.has_old.place c.args.p h c.args.k l)).0)

pub write_high-requires : goal.write_high-requires
write_high-requires c =
    let r = c.requires.ready in
    let h = c.requires.p_lt_count in
    let l : c.args.k < get_or c.args.valences.now c.args.p 0 = omega arith in
    let e = edge_row r c.args.p c.args.k h l _ (c.requires.has_old.place c.args.p h c.args.k l) in
    record { row_le_stack_bound = omega (arith, e.0); most_valence_in_bounds = e.1 }

pub returns : goal.returns
returns c =
    let r = c.requires.ready in
    let h = c.requires.p_lt_count in
    let l : c.args.k < get_or c.args.valences.now c.args.p 0 = omega arith in
    let o = c.requires.has_old in
    let n : c.args.n ≡ get_or c.args.valences.now c.args.p 0 = c.requires.n_value in
    let t = ready_entry r c.args.p c.args.k l in
    high_written r c.args.p c.args.k h l _ _ _ (c.requires.has_old.place c.args.p h c.args.k l)
    (old_before r c.args.p c.args.k h l o c.place_before.result (c.place_before.ensures.value ∙ ap (λ (m : ℕ). place_before m c.args.k) n) (omega (arith, c.place_before.ensures.upper_bound)))
    (old_after r c.args.p c.args.k h l o c.place_after.result (c.place_after.ensures.value ∙ ap (λ (m : ℕ). place_after m c.args.k) n) (omega (arith, c.place_after.ensures.upper_bound)))
    (omega (arith, c.if-p-rings.false)) c.write_high.ensures
