-- `first_far` meets its contract: no vertex below v lies beyond the range, and its line comes next. Assumes nothing.
use mathlib.Core.Path.{sym, ◌∙◌}
use native.Mathlib.Omega.{arith}
use Rattle.mesh.proofs.First.{first_is, first_end}
use Rattle.off_points.proofs.Pointing.{line_of, searched_none, searched_more}
use Rattle.off_points.proofs.first_far.Goals as goal

pub loop-v-init : goal.loop-v-init
loop-v-init c = searched_none c.requires

pub far_at-here-requires : goal.far_at-here-requires
far_at-here-requires c = line_of c.requires c.loop-v-test.true c.loop-v.invariant.here

pub returns-then-here : goal.returns-then-here
returns-then-here c = first_is c.loop-v.invariant.clear c.loop-v-test.true (sym c.far_at-here.ensures.far_value ∙ c.if-here.true)

pub loop-v-preserved : goal.loop-v-preserved
loop-v-preserved c = searched_more c.loop-v.invariant c.far_at-here.ensures.far_value c.if-here.false c.far_at-here.ensures.next_value

pub returns : goal.returns
returns c = omega (arith, first_end c.loop-v.invariant.clear c.loop-v.auto.v-end c.loop-v-test.false)
