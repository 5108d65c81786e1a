use mathlib.Core.Path.{◌≡◌}
use lib.ListN.{get_or, take}
use Rattle.mesh.specs.Edits.{opened}
use Rattle.rings.proofs.Rewrite.{Written}
use Rattle.ring_row.proofs.row.open_up.Given as goal

abbrev pub invariant-loop-k : goal.invariant-loop-k
invariant-loop-k l = record {
  carried : l.carry ≡ get_or (opened (take l.n l.initial.row) l.i l.x) l.k 0;
  written : Written (opened (take l.n l.initial.row) l.i l.x) l.initial.row l.k l.row;
}
