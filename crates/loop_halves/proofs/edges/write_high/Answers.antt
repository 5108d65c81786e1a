-- `write_high` meets its contract. Assumes nothing.
use lib.ListN.{length-set}
use native.Mathlib.Omega.{arith}
use Rattle.loop_halves.proofs.edges.write_high.Goals as goal

pub bounds-rings-a-2 : goal.bounds-rings-a-2
bounds-rings-a-2 c = simp length-set (omega arith)

pub bounds-rings-a-3 : goal.bounds-rings-a-3
bounds-rings-a-3 c = simp length-set (omega arith)
