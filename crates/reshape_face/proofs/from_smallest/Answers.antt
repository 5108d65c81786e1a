-- `from_smallest` meets its contract. Assumes nothing.
use Rattle.reshape_face.proofs.FacesJudged.{not_below_first, not_below_second, first_smallest, second_smallest, third_smallest}
use borrow.Author.Tests.{lt-ltb, le-ltb}
use Rattle.reshape_face.proofs.from_smallest.Goals as goal
use Rattle.reshape_face.proofs.from_smallest.Goals.{else-u-v-via-then-u-v+else-u-w, else-u-v-via-else-u-v, else-v-w-via-then-v-w+else-v-u, else-v-w-via-else-v-w}

pub returns-then-u-w : goal.returns-then-u-w
returns-then-u-w c = first_smallest _ _ _ c.if-u-v.true (lt-ltb c.args.u c.args.w c.if-u-w.true)

pub returns-then-v-u : goal.returns-then-v-u
returns-then-v-u c =
    second_smallest _ _ _
    (elim c.else-u-v.branch [ else-u-v-via-then-u-v+else-u-w g ↦ not_below_second _ _ _ (le-ltb c.args.u c.args.w g.if-u-w.false) | else-u-v-via-else-u-v g ↦ not_below_first _ _ _ g.if-u-v.false ])
    c.if-v-w.true (lt-ltb c.args.v c.args.u c.if-v-u.true)

pub returns : goal.returns
returns c =
    third_smallest _ _ _
    (elim c.else-u-v.branch [ else-u-v-via-then-u-v+else-u-w g ↦ not_below_second _ _ _ (le-ltb c.args.u c.args.w g.if-u-w.false) | else-u-v-via-else-u-v g ↦ not_below_first _ _ _ g.if-u-v.false ])
    (elim c.else-v-w.branch [ else-v-w-via-then-v-w+else-v-u g ↦ not_below_second _ _ _ (le-ltb c.args.v c.args.u g.if-v-u.false) | else-v-w-via-else-v-w g ↦ not_below_first _ _ _ g.if-v-w.false ])
