use Prim.Native.Nat.{min}
use Rattle.std.proofs.Common.{◌≡◌, take}
use Rattle.std.specs.List.{fold}
use Rattle.off_walk.proofs.smallest_of.Given as goal

abbrev pub invariant-loop-u : goal.invariant-loop-u
invariant-loop-u l = l.best ≡ fold min l.count (take l.u-index l.from)
