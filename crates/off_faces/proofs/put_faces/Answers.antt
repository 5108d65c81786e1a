-- `put_faces` meets its contract. Assumes nothing.
use native.Mathlib.Omega.{arith}
use Rattle.rings.specs.Table.{lent}
use Rattle.rings.proofs.Rows.{fit_row}
use Rattle.off_faces.proofs.FacesWritten.{reached_none, reached_fits, reached_more, reached_end, row_ascending}
use Rattle.off_faces.proofs.put_faces.Goals as goal

pub loop-a-init : goal.loop-a-init
loop-a-init c = reached_none _ _ (omega arith)

pub ring_of-requires : goal.ring_of-requires
ring_of-requires c = fit_row c.requires.fit c.loop-a-test.true

pub put_faces_of-end-requires : goal.put_faces_of-end-requires
put_faces_of-end-requires c =
    let h = c.loop-a-test.true in
    let e = c.ring_of.ensures.result_value in
    record {
      ascending = row_ascending c.args.count (lent c.args.valences.now c.args.rings.now) c.requires.sound h _ e;
      count_in_bounds = reached_fits _ _ c.loop-a.invariant h _ e c.requires.rings_in_bounds;
    }

pub loop-a-preserved : goal.loop-a-preserved
loop-a-preserved c = reached_more _ _ c.loop-a.invariant c.loop-a-test.true _ c.ring_of.ensures.result_value c.put_faces_of-end.ensures

pub returns : goal.returns
returns c = reached_end _ _ c.loop-a.invariant (omega arith)
