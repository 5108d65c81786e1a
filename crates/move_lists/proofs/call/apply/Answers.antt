-- `apply` meets its contract: the plan of the list, settled, is what the call answers. Assumes nothing.
use Rattle.std.proofs.Common.{◌≡◌, length, sym, ap, subst, ◌∙◌}
use Rattle.rings.specs.Table.{Lent, lent}
use Rattle.move_plan.specs.declared.Plan.{Plan}
use Rattle.move_plan.specs.Plan.{Fair, walk_of}
use Rattle.move_lists.specs.Settle.{first_plan, settle_answer, settle_positions, settle_map}
use Rattle.move_lists.proofs.Settled.{list_fair, settle_is_apply}
use Rattle.move_lists.proofs.call.apply.Goals as goal

pub settle-requires : goal.settle-requires
settle-requires c =
    let a = c.args in
    let e : c.walk.result ≡ walk_of a.positions.now a.list.now (first_plan a.count a.levels) =
    c.walk.ensures ∙ ap (walk_of a.positions.now a.list.now) c.first_plan.ensures in
    subst Fair (sym e) (list_fair a.count a.levels (lent a.valences.now a.rings.now) a.positions.now a.map.now a.list.now)

pub returns : goal.returns
returns c =
    let a = c.args in
    let t : Lent = lent a.valences.now a.rings.now in
    let e : c.walk.result ≡ walk_of a.positions.now a.list.now (first_plan a.count a.levels) =
    c.walk.ensures ∙ ap (walk_of a.positions.now a.list.now) c.first_plan.ensures in
    let s = settle_is_apply a.count a.levels t a.positions.now a.map.now a.list.now in
    let k = length a.list.now in (
      c.settle.ensures.0 ∙ ap (λ (p : Plan). settle_answer p k a.levels t a.positions.now a.map.now) e ∙ s.0,
      c.settle.ensures.1 ∙ ap (λ (p : Plan). settle_positions p k a.levels t a.positions.now a.map.now) e ∙ s.1,
      c.settle.ensures.2 ∙ ap (λ (p : Plan). settle_map p k a.levels t a.positions.now a.map.now) e ∙ s.2,
    )
