-- `write_low` meets its contract. Assumes nothing.
use lib.ListN.{length-set}
use borrow.Author.Rules.{rules}
use native.Mathlib.Omega.{arith}
use Rattle.loop_halves.proofs.edges.write_low.Goals as goal

pub bounds-rings-a-2 : goal.bounds-rings-a-2
bounds-rings-a-2 c = simp length-set (omega arith)

pub bounds-rings-a-3 : goal.bounds-rings-a-3
bounds-rings-a-3 c = simp length-set (omega arith)

pub write_unused-requires : goal.write_unused-requires
write_unused-requires c =
    record { most_valence_in_bounds = simp length-set (omega arith); used_le_most_valence = search rules }

pub returns : goal.returns
returns c = c.write_unused.ensures
