use mathlib.Core.Path.{◌≡◌}
use Prim.Native.Nat.{ℕ, ◌<◌}
use lib.ListN.{get_or}
use Rattle.mesh.specs.Limits.{null_vertex}
use Rattle.rings.proofs.table.write_unused.Given as goal

abbrev pub invariant-loop-u : goal.invariant-loop-u
invariant-loop-u l = (k : ℕ) → k < l.u-index → get_or l.u-items k 0 ≡ null_vertex
