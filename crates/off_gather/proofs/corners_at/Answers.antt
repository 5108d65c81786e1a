-- `corners_at` meets its contract. Assumes nothing.
use native.Mathlib.Omega.{arith}
use Rattle.off_gather.proofs.Gathering.{standing, cornered, then_first, then_second}
use Rattle.off_gather.proofs.corners_at.Goals as goal

pub overflow_add-at : goal.overflow_add-at
overflow_add-at c = omega (arith, (standing _ _ c.requires).begins)

pub read_number-p-requires : goal.read_number-p-requires
read_number-p-requires c = (standing _ _ c.requires).first

pub read_number-q-requires : goal.read_number-q-requires
read_number-q-requires c = then_first _ _ _ c.requires c.read_number-p.ensures.next_value

pub read_number-r-requires : goal.read_number-r-requires
read_number-r-requires c = then_second _ _ _ _ c.requires c.read_number-p.ensures.next_value c.read_number-q.ensures.next_value

pub returns : goal.returns
returns c =
    cornered _ _ _ _ _ _ _ _ c.requires
    c.read_number-p.ensures.value_value
    c.read_number-p.ensures.next_value
    c.read_number-q.ensures.value_value
    c.read_number-q.ensures.next_value
    c.read_number-r.ensures.value_value
    c.read_number-r.ensures.next_value
