use lib.ListN.{take}
use Rattle.mesh.specs.Edits.{closed}
use Rattle.rings.proofs.Rewrite.{Written}
use Rattle.ring_row.proofs.row.close_up.Given as goal

abbrev pub invariant-loop-k : goal.invariant-loop-k
invariant-loop-k l = Written (closed (take l.n l.initial.row) l.i) l.initial.row l.k l.row
