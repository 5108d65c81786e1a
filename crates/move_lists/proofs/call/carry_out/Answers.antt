-- `carry_out` meets its contract. Assumes nothing.
use mathlib.Core.Path.{◌≡◌, ◌∙◌}
use Rattle.stack_strange.specs.Expected.{whole}
use Rattle.move_plan.specs.Plan.{planned}
use Rattle.move_lists.proofs.Judging.{Judged, judged, edges_asked, edges_are, whole_is, whole_small}
use Rattle.move_lists.proofs.CarriedOut.{fair_low, fair_near, stack_ready, control_in_map, map_ready, counted, positions_after, map_marked}
use native.Mathlib.Omega.{arith}
use lib.ListN.{length}
use Rattle.rings.specs.Table.{lent}
use Rattle.move_lists.proofs.call.carry_out.Goals as goal

pub edge_count-edges-requires : goal.edge_count-edges-requires
edge_count-edges-requires c =
    let t = let judgement : let a = c.args in Judged a.plan.count a.levels (lent a.valences.now a.rings.now) a.positions.now (length a.map.now) a.moves = judged _ _ _ _ _ _ c.requires.moves_value in
    edges_asked judgement.stack in
    record { count_in_bounds = t.0; count_le_most_count = t.1 }

pub stack_count-whole-requires : goal.stack_count-whole-requires
stack_count-whole-requires c =
    let judgement : let a = c.args in Judged a.plan.count a.levels (lent a.valences.now a.rings.now) a.positions.now (length a.map.now) a.moves = judged _ _ _ _ _ _ c.requires.moves_value in
    record { count_le_most_count = (edges_asked judgement.stack).1; edges_le_edge_bound = c.edge_count-edges.ensures.upper_bound; levels_le_most_levels = judgement.stack.high }

pub clear-requires : goal.clear-requires
clear-requires c =
    let judgement : let a = c.args in Judged a.plan.count a.levels (lent a.valences.now a.rings.now) a.positions.now (length a.map.now) a.moves = judged _ _ _ _ _ _ c.requires.moves_value in
    let whole-counted : let a = c.args in c.stack_count-whole.result ≡ whole a.plan.count a.levels (lent a.valences.now a.rings.now) a.positions.now = whole_is judgement.stack _ _ c.edge_count-edges.ensures.value c.stack_count-whole.ensures.value in
    let w = whole-counted in
    let s = whole_small judgement.stack in
    let r = judgement.room in
    record { total_le_stack_bound = omega arith; total_in_bounds = omega arith }

pub write_control-requires : goal.write_control-requires
write_control-requires c =
    let judgement : let a = c.args in Judged a.plan.count a.levels (lent a.valences.now a.rings.now) a.positions.now (length a.map.now) a.moves = judged _ _ _ _ _ _ c.requires.moves_value in
    let j = judgement in
    let low = fair_low c.args.plan c.requires.fair in
    let near = fair_near c.args.plan c.requires.fair in
    let n = control_in_map j (planned c.args.plan) low near in
    let r = j.room in
    record { fair = c.requires.fair; count_in_bounds = j.stack.control.points; count_in_bounds_2 = omega (arith, c.clear.auto.map); count_le_stack_bound = omega (arith, (edges_asked j.stack).1) }

pub refresh_levels-requires : goal.refresh_levels-requires
refresh_levels-requires c =
    let judgement : let a = c.args in Judged a.plan.count a.levels (lent a.valences.now a.rings.now) a.positions.now (length a.map.now) a.moves = judged _ _ _ _ _ _ c.requires.moves_value in
    let whole-counted : let a = c.args in c.stack_count-whole.result ≡ whole a.plan.count a.levels (lent a.valences.now a.rings.now) a.positions.now = whole_is judgement.stack _ _ c.edge_count-edges.ensures.value c.stack_count-whole.ensures.value in
    let j = judgement in
    let low = fair_low c.args.plan c.requires.fair in
    let near = fair_near c.args.plan c.requires.fair in
    let n = control_in_map j (planned c.args.plan) low near in
    let r = j.room in
    let cleared =
    rw whole-counted at
    c.clear.ensures in
    record {
      stack_ready = rw c.write_control.ensures.positions_after
          (stack_ready j (planned c.args.plan) low near _ (edges_are j.stack _ c.edge_count-edges.ensures.value));
      map_ready = map_ready j (planned c.args.plan) low near _ _ _ cleared c.write_control.ensures.map_after
          (omega (arith, c.clear.auto.map, c.write_control.auto.map));
    }

pub count-requires : goal.count-requires
count-requires c =
    let judgement : let a = c.args in Judged a.plan.count a.levels (lent a.valences.now a.rings.now) a.positions.now (length a.map.now) a.moves = judged _ _ _ _ _ _ c.requires.moves_value in
    let whole-counted : let a = c.args in c.stack_count-whole.result ≡ whole a.plan.count a.levels (lent a.valences.now a.rings.now) a.positions.now = whole_is judgement.stack _ _ c.edge_count-edges.ensures.value c.stack_count-whole.ensures.value in
    let j = judgement in
    let low = fair_low c.args.plan c.requires.fair in
    let near = fair_near c.args.plan c.requires.fair in
    let n = control_in_map j (planned c.args.plan) low near in
    let r = j.room in
    let w = whole-counted in
    let k = whole_small j.stack in
    record {
      total_le_stack_bound = omega arith;
      total_in_bounds = omega
          (arith, c.clear.auto.map, c.write_control.auto.map, c.refresh_levels.auto.map);
    }

pub returns : goal.returns
returns c =
    let judgement : let a = c.args in Judged a.plan.count a.levels (lent a.valences.now a.rings.now) a.positions.now (length a.map.now) a.moves = judged _ _ _ _ _ _ c.requires.moves_value in
    let whole-counted : let a = c.args in c.stack_count-whole.result ≡ whole a.plan.count a.levels (lent a.valences.now a.rings.now) a.positions.now = whole_is judgement.stack _ _ c.edge_count-edges.ensures.value c.stack_count-whole.ensures.value in
    let j = judgement in
    let low = fair_low c.args.plan c.requires.fair in
    let near = fair_near c.args.plan c.requires.fair in
    let n = control_in_map j (planned c.args.plan) low near in
    let r = j.room in
    let cleared =
    rw whole-counted
    at c.clear.ensures in
    let named = c.write_control.ensures.map_after in
    let t = c.refresh_levels.ensures.touched_marked in
    record {
      value = rw
          whole-counted
          at c.count.ensures.value_2
          ∙ counted j (planned c.args.plan) low near _ _ _ cleared named _ t;
      positions_after = positions_after j (planned c.args.plan) low near _ _ _ cleared named _ t _ _
          c.write_control.ensures.positions_after
          c.refresh_levels.ensures.positions_after;
      map_after = map_marked j (planned c.args.plan) low near _ _ _ cleared named _ t r
          (record { small = λ w. (c.slice_known-1.given w).fits })
          (record { small = λ w. (c.slice_known-4-1.given w).fits })
          (omega (arith, c.clear.auto.map, c.write_control.auto.map, c.refresh_levels.auto.map));
    }
