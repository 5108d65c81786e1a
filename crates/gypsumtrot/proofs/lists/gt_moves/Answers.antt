-- `gt_moves` meets its contract: the plan of the records, settled and answered by their kinds, is the call with their moves. Assumes nothing.
use Rattle.std.proofs.Common.{◌≡◌, sym, ap, subst, ◌∙◌}
use Rattle.rings.specs.Table.{lent}
use Rattle.move_plan.specs.Plan.{Fair, walk_of}
use Rattle.move_lists.specs.Settle.{first_plan}
use Rattle.move_lists.proofs.Settled.{list_fair}
use Rattle.c_moves.specs.Records.{moves_of}
use Rattle.gypsumtrot.proofs.RecordLists.{records_settled}
use Rattle.gypsumtrot.proofs.lists.gt_moves.Goals as goal

pub settle_records-requires : goal.settle_records-requires
settle_records-requires c =
    let a = c.args in
    let e : c.walk_records.result ≡ walk_of a.positions.now (moves_of a.list.now) (first_plan a.count a.levels) =
    c.walk_records.ensures ∙ ap (walk_of a.positions.now (moves_of a.list.now)) c.first_plan.ensures in
    subst Fair (sym e) (list_fair a.count a.levels (lent a.valences.now a.rings.now) a.positions.now a.map.now (moves_of a.list.now))

pub returns : goal.returns
returns c =
    let a = c.args in
    let e : c.walk_records.result ≡ walk_of a.positions.now (moves_of a.list.now) (first_plan a.count a.levels) =
    c.walk_records.ensures ∙ ap (walk_of a.positions.now (moves_of a.list.now)) c.first_plan.ensures in
    records_settled a.count a.levels (lent a.valences.now a.rings.now) a.positions.now a.map.now a.list.now e c.settle_records.ensures.0
    c.settle_records.ensures.1 c.settle_records.ensures.2 c.by_kinds.ensures
