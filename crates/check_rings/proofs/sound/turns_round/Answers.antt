-- `turns_round` meets its contract. Assumes nothing.
use Prim.Native.Nat.{◌<◌, ◌-◌}
use mathlib.Core.Path.{◌≡◌}
use lib.ListN.{get_or}
use Rattle.mesh.specs.Ring.{Follows}
use Rattle.rings.specs.Table.{lent, ring_of}
use Rattle.mesh.proofs.Searches.{each_between}
use Rattle.check_rings.proofs.Turning.{turns_all}
use borrow.Author.Rules.{rules}
use Rattle.check_rings.proofs.sound.turns_round.Goals as goal

pub returns-then-turns_back : goal.returns-then-turns_back
returns-then-turns_back c = λ e.
    let a = c.args in
    let r = c.ring_of-ring.result.now in
    let ring = ring_of (lent a.valences.now a.rings.now) in
    turns_all _ _ _ _ c.ring_of-ring.ensures.result_value _ c.ring_of-ring.ensures.result_len (c.turns_back.ensures c.if-turns_back.true)
    (each_between (λ k. (get_or r k 0 ≡ get_or r 0 0 → ⊥) × ((get_or r k 0 < a.count) × Follows (ring (get_or r k 0)) a.v (get_or r (k - 1) 0))) 1 _ _ _ _ c.all.ensures.ran (λ x q k. search rules) e)
