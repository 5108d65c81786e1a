-- `place_over` meets its contract. Assumes nothing.
use native.Mathlib.Omega.{arith}
use Rattle.mesh.proofs.Overs.{least_low, least_high, least_new}
use Rattle.loop_rings.proofs.numbers.place_over.Goals as goal
use Rattle.loop_rings.proofs.numbers.place_over.Goals.{then-last-u+then-u-best, else-last-u, else-last-u-via-then-last-u+else-u-best, else-last-u-via-else-last-u}

pub loop-i-preserved : goal.loop-i-preserved
loop-i-preserved c =
    let inv = c.loop-i.invariant in
    let l = c.loop-i-test.true in
    let u = c.type_inv.ring c.loop-i.i in
    elim c.if-last-u.branch [
      | then-last-u+then-u-best w ↦ rw (w.best-is, w.at-is) (least_new inv l w.if-last-u.true w.if-u-best.true)
      | else-last-u w ↦
          rw (w.best-is, w.at-is)
          (elim w.else-last-u.branch [
            | else-last-u-via-then-last-u+else-u-best v ↦ least_high inv l v.if-last-u.true v.if-u-best.false (omega arith)
            | else-last-u-via-else-last-u v ↦ least_low inv l v.if-last-u.false
          ])
    ]
