-- `put_faces_of` meets its contract. The loop meets the entries over a by ascending number. Assumes nothing.
use mathlib.Core.Path.{ap}
use native.Mathlib.Omega.{arith}
use lib.ListN.{get_or}
use Rattle.off_faces.proofs.FacesWritten.{faced_none, faced_left, faced_end, faced_fits, faced_more, faced_skip}
use Rattle.off_faces.proofs.put_faces_of.Goals as goal
use Rattle.off_faces.proofs.put_faces_of.Goals.{then-a-c, else-a-c}

pub loop-k-init : goal.loop-k-init
loop-k-init c = faced_none _ _ (omega arith)

pub place_over-i-requires : goal.place_over-i-requires
place_over-i-requires c = faced_left c.loop-k.invariant (omega arith)

pub put_face-end-requires : goal.put_face-end-requires
put_face-end-requires c =
    let e = ap (λ j. get_or c.args.ring.now j 0) c.place_before.ensures.value in
    faced_fits c.loop-k.invariant c.requires.ascending _ c.place_over-i.ensures.upper_bound c.place_over-i.ensures.last_bound c.place_over-i.ensures.ring_value _ e
    c.if-a-c.true
    c.requires.count_in_bounds

pub loop-k-preserved : goal.loop-k-preserved
loop-k-preserved c =
    let w = c.loop-k.invariant in
    let s = c.requires.ascending in
    let e = ap (λ j. get_or c.args.ring.now j 0) c.place_before.ensures.value in
    elim c.if-a-c.branch [
      | then-a-c d ↦
          rw (d.text-is, d.end-is)
          (faced_more w s _ c.place_over-i.ensures.upper_bound c.place_over-i.ensures.last_bound c.place_over-i.ensures.ring_value _ e d.if-a-c.true d.put_face-end.ensures)
      | else-a-c d ↦
          rw (d.text-is, d.end-is)
          (faced_skip w s _ c.place_over-i.ensures.upper_bound c.place_over-i.ensures.last_bound c.place_over-i.ensures.ring_value _ e d.if-a-c.false)
    ]

pub returns : goal.returns
returns c = faced_end c.loop-k.invariant (omega arith) c.requires.ascending
