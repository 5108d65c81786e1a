-- `write_halves` meets its contract. Assumes nothing.
use mathlib.Core.Path.{◌≡◌, subst}
use Prim.Native.Nat.{ℕ}
use native.Mathlib.Omega.{arith}
use Rattle.rings.specs.Table.{lent}
use Rattle.loop_halves.specs.Nearer.{Halves, PlacesBelow}
use Rattle.loop_halves.proofs.Targets.{kept_ready, kept_old}
use Rattle.loop_halves.proofs.HalfRows.{halves_join}
use Rattle.loop_halves.proofs.Steps.{halves_none, no_place, place_more}
use Rattle.loop_halves.proofs.edges.write_halves.Goals as goal

pub loop-k-init : goal.loop-k-init
loop-k-init c = let s = c.args in halves_none s.count (lent s.valences.now s.rings.now) (no_place s.p)

pub write_half-requires : goal.write_half-requires
write_half-requires c =
    let f = c.loop-k.invariant.nearer in
    record { ready = kept_ready c.requires.ready f; has_old = kept_old c.requires.ready f c.requires.has_old; p_lt_count = c.requires.p_lt_count; n_value = c.requires.n_value; k_lt_n = c.loop-k-test.true }

pub loop-k-preserved : goal.loop-k-preserved
loop-k-preserved c =
    halves_join c.requires.ready c.loop-k.invariant c.write_half.ensures (place_more c.requires.p_lt_count)

pub returns : goal.returns
returns c =
    let s = c.args in
    let e : c.loop-k.k ≡ s.n = omega arith in
    subst (λ (m : ℕ). Halves s.count (lent s.valences.now s.rings.now) c.loop-k.rings (PlacesBelow s.p m)) e c.loop-k.invariant
