use Prim.Native.Nat.{◌+◌, ◌-◌, ◌%◌, ◌≤◌}
use mathlib.Core.Path.{◌≡◌}
use lib.ListN.{length}
use Rattle.file_format.specs.Blocks.{Put, gather_from}
use Rattle.file_rings.specs.Neighbours.{neighbour_bytes}
use Rattle.file_rings.proofs.writing.write_fours.Given as goal

abbrev pub invariant-loop-i : goal.invariant-loop-i
invariant-loop-i l = record {
  most : l.i ≤ length l.ring;
  whole : l.i % 4 ≡ 0;
  put : Put l.initial.file (l.at + 8) (gather_from (neighbour_bytes l.ring) 4 (l.i - 4)) l.file;
}

abbrev pub decreases-loop-i : goal.decreases-loop-i
decreases-loop-i l = length l.ring - l.i
