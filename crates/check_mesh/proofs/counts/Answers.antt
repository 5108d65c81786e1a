-- `counts` meets its contract. Assumes nothing.
use mathlib.Core.Path.{ap}
use Prim.Native.Nat.{ℕ, ◌*◌, ◌/◌}
use Rattle.rings.specs.Check.{counts_of}
use Rattle.rings.specs.Refusal.{counted}
use Rattle.check_mesh.proofs.counts.Goals as goal

pub returns : goal.returns
unfolding counts_of
returns c = ap (λ (e : ℕ). counted c.args.count e (2 * e / 3)) c.edge_count-e.ensures.value
