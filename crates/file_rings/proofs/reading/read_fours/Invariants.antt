-- The first k fours are read, and n neighbours have them all.
use Prim.Native.Nat.{◌+◌, ◌-◌, ◌*◌, ◌≤◌}
use Rattle.file_format.specs.Layout.{neighbour_at}
use Rattle.file_format.specs.Blocks.{Put, gather_from}
use Rattle.file_rings.proofs.reading.read_fours.Given as goal

abbrev pub invariant-loop-k : goal.invariant-loop-k
invariant-loop-k l = record {
  put : Put l.initial.rings (l.to + 4) (gather_from (neighbour_at l.bytes l.from) 4 (4 * l.k - 4)) l.rings;
  within : 4 * l.k ≤ l.n;
}
