-- `write_levels` meets its contract: the invariant is that levels 0 to the counter's stand in the tables, and `below` is the counter's level. Assumes nothing.
use native.Mathlib.Omega.{arith}
use Rattle.rings.specs.Table.{lent}
use Rattle.stack_judge.proofs.Judged.{counted_edges}
use Rattle.stack_refine.proofs.WrittenLevels.{Bounds, running_none, running_bounds, running_levels, running_more, end_counts, end_tables}
use Rattle.stack_refine.proofs.levels.write_levels.Goals as goal

pub edge_count-requires : goal.edge_count-requires
edge_count-requires c =
    record { count_in_bounds = c.requires.control.room.valences; count_le_most_count = c.requires.control.high }

pub ground-below-requires : goal.ground-below-requires
ground-below-requires c = c.edge_count.ensures.upper_bound

pub loop-init : goal.loop-init
loop-init c =
    running_none _ _ _ _ _ (counted_edges _ _ _ c.requires.control _ c.edge_count.ensures.value) c.edge_count.ensures.upper_bound _ c.ground-below.ensures

pub offset_bounds-valences-base : goal.offset_bounds-valences-base
offset_bounds-valences-base c =
    let bounds : Bounds c.loop.below (lent c.loop.valences c.loop.rings) c.loop.positions = running_bounds c.requires c.loop.invariant in
    let h = bounds in omega arith

pub slice_bounds-write_level-count : goal.slice_bounds-write_level-count
slice_bounds-write_level-count c =
    let bounds : Bounds c.loop.below (lent c.loop.valences c.loop.rings) c.loop.positions = running_bounds c.requires c.loop.invariant in
    let h = bounds in omega arith

pub slice_bounds-write_level-start : goal.slice_bounds-write_level-start
slice_bounds-write_level-start c =
    let bounds : Bounds c.loop.below (lent c.loop.valences c.loop.rings) c.loop.positions = running_bounds c.requires c.loop.invariant in
    let h = bounds in omega arith

pub overflow_mul-base : goal.overflow_mul-base
overflow_mul-base c =
    let bounds : Bounds c.loop.below (lent c.loop.valences c.loop.rings) c.loop.positions = running_bounds c.requires c.loop.invariant in
    let h = bounds in omega arith

pub offset_bounds-rings-base : goal.offset_bounds-rings-base
offset_bounds-rings-base c =
    let bounds : Bounds c.loop.below (lent c.loop.valences c.loop.rings) c.loop.positions = running_bounds c.requires c.loop.invariant in
    let h = bounds in omega arith

pub slice_bounds-write_level-count-in-loop : goal.slice_bounds-write_level-count-in-loop
slice_bounds-write_level-count-in-loop c =
    let bounds : Bounds c.loop.below (lent c.loop.valences c.loop.rings) c.loop.positions = running_bounds c.requires c.loop.invariant in
    let h = bounds in omega arith

pub slice_bounds-write_level-start-in-loop : goal.slice_bounds-write_level-start-in-loop
slice_bounds-write_level-start-in-loop c =
    let bounds : Bounds c.loop.below (lent c.loop.valences c.loop.rings) c.loop.positions = running_bounds c.requires c.loop.invariant in
    let h = bounds in omega arith

pub overflow_mul-base-in-loop : goal.overflow_mul-base-in-loop
overflow_mul-base-in-loop c =
    let bounds : Bounds c.loop.below (lent c.loop.valences c.loop.rings) c.loop.positions = running_bounds c.requires c.loop.invariant in
    let h = bounds in omega arith

pub offset_bounds-positions-base : goal.offset_bounds-positions-base
offset_bounds-positions-base c =
    let bounds : Bounds c.loop.below (lent c.loop.valences c.loop.rings) c.loop.positions = running_bounds c.requires c.loop.invariant in
    let h = bounds in omega arith

pub slice_bounds-write_level-count-in-loop-2 : goal.slice_bounds-write_level-count-in-loop-2
slice_bounds-write_level-count-in-loop-2 c =
    let bounds : Bounds c.loop.below (lent c.loop.valences c.loop.rings) c.loop.positions = running_bounds c.requires c.loop.invariant in
    let h = bounds in omega arith

pub slice_bounds-write_level-start-in-loop-2 : goal.slice_bounds-write_level-start-in-loop-2
slice_bounds-write_level-start-in-loop-2 c =
    let bounds : Bounds c.loop.below (lent c.loop.valences c.loop.rings) c.loop.positions = running_bounds c.requires c.loop.invariant in
    let h = bounds in omega arith

pub write_level-requires : goal.write_level-requires
write_level-requires c = running_levels c.requires c.loop.invariant (omega arith)

pub above-below-requires : goal.above-below-requires
above-below-requires c =
    let bounds : Bounds c.loop.below (lent c.loop.valences c.loop.rings) c.loop.positions = running_bounds c.requires c.loop.invariant in
    bounds.small

pub loop-preserved : goal.loop-preserved
loop-preserved c =
    running_more c.requires c.loop.invariant (omega arith) _ _ _ c.write_level.ensures.valences_after c.write_level.ensures.rings_after c.write_level.ensures.positions_after _ c.above-below.ensures

pub returns : goal.returns
returns c =
    let t = end_tables c.requires c.loop.invariant (omega arith) in
    record { value = end_counts c.requires c.loop.invariant (omega arith); valences_after = t.0; rings_after = t.1.0; positions_after = t.1.1 }
