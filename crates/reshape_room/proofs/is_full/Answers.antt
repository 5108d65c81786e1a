-- `is_full` meets its contract. Assumes nothing.
use native.Mathlib.Omega.{arith}
use Rattle.reshape_room.proofs.is_full.Goals as goal

pub overflow_cast-result : goal.overflow_cast-result
overflow_cast-result c = omega (arith, c.type_inv.valences c.args.v)
