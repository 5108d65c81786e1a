-- `turns_back` meets its contract. Assumes nothing.
use Rattle.check_rings.proofs.Turning.{turned_back}
use Rattle.check_rings.proofs.sound.turns_back.Goals as goal

pub returns-then-u-count : goal.returns-then-u-count
returns-then-u-count c = λ e. (c.if-u-count.true, turned_back _ _ _ _ c.ring_of.ensures.result_value c.follows_in.ensures e)
