-- `is_sound` meets its contract. Assumes nothing.
use lib.ListN.{get_or}
use Rattle.mesh.proofs.Searches.{each_found}
use Rattle.rings.specs.Table.{lent, ring_of}
use Rattle.check_rings.specs.Turning.{Turns}
use Rattle.check_rings.proofs.Turning.{turning_fit}
use borrow.Author.Rules.{rules}
use Rattle.check_rings.proofs.sound.is_sound.Goals as goal

pub returns-then-are_valences_fit : goal.returns-then-are_valences_fit
returns-then-are_valences_fit c = λ e.
    let a = c.args in
    turning_fit c.requires (c.are_valences_fit.ensures c.if-are_valences_fit.true)
    (each_found (λ v. Turns a.count (ring_of (lent a.valences.now a.rings.now)) v (get_or a.valences.now v 0)) _ _ _ _ c.all.ensures.ran (λ x q k. search rules) e)
