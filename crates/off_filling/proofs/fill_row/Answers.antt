-- `fill_row` meets its contract: the ring is written while it is walked round. Assumes nothing.
use native.Mathlib.Omega.{arith}
use Rattle.off_filling.proofs.RowWritten.{walked_none, walked_more, walked_all}
use Rattle.off_filling.proofs.fill_row.Goals as goal

pub loop-k-init : goal.loop-k-init
loop-k-init c = walked_none _ _ _ c.requires.count_le_most_count (omega arith) c.smallest_of-x.ensures

pub loop-k-preserved : goal.loop-k-preserved
loop-k-preserved c = walked_more _ _ c.args.to.now c.requires.count_le_most_count (λ i. omega (arith, c.type_inv.to i)) (omega arith) c.loop-k.invariant c.follow-x.ensures

pub returns : goal.returns
returns c =
    walked_all _ _ _ c.requires.from_len_bound c.requires.most_valence_in_bounds (omega arith) c.loop-k.invariant c.write_unused.ensures
