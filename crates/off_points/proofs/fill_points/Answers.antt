-- `fill_points` meets its contract: the points below v are written, and its line comes next. Assumes nothing.
use native.Mathlib.Omega.{arith}
use Rattle.off_points.proofs.Pointing.{line_of, filled_none, filled_more, filled_all}
use Rattle.off_points.proofs.fill_points.Goals as goal

pub loop-v-init : goal.loop-v-init
loop-v-init c = filled_none c.requires.vertex_lines

pub fill_point-at-requires : goal.fill_point-at-requires
fill_point-at-requires c =
    record {
      vertex_line = line_of c.requires.vertex_lines c.loop-v-test.true c.loop-v.invariant.here;
      v_in_bounds = omega (arith, c.loop-v.invariant.long, c.requires.count_in_bounds, c.loop-v-test.true);
    }

pub loop-v-preserved : goal.loop-v-preserved
loop-v-preserved c = filled_more c.loop-v.invariant c.fill_point-at.ensures.put c.fill_point-at.ensures.value

pub returns : goal.returns
returns c = filled_all _ c.loop-v.invariant c.loop-v.auto.v-end c.loop-v-test.false
