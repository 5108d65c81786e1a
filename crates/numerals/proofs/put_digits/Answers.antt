-- `put_digits` meets its contract. Assumes nothing.
use Rattle.numerals.proofs.Backward.{backward_none, backward_more, backward_all}
use Rattle.numerals.proofs.put_digits.Goals as goal

pub loop-k-init : goal.loop-k-init
loop-k-init c = backward_none _ _ c.requires.count_value c.requires.count_in_bounds

pub loop-k-preserved : goal.loop-k-preserved
loop-k-preserved c = backward_more _ c.loop-k-test.true c.loop-k.invariant c.digit.ensures

pub returns : goal.returns
returns c = backward_all _ c.loop-k-test.false c.loop-k.invariant
