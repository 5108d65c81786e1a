-- `write_level` meets its contract. Assumes nothing.
use native.Mathlib.Omega.{arith}
use Rattle.rings.specs.Table.{Lent, lent}
use Rattle.loop_sweep.proofs.Done.{Done, done_levels, done_up_to, done_valence_count}
use Rattle.loop_sweep.proofs.Whole.{valences_whole, rings_again, positions_again}
use Rattle.loop_sweep.proofs.write.write_level.Goals as goal

pub write_old-edges-requires : goal.write_old-edges-requires
write_old-edges-requires c = c.requires

pub write_new-requires : goal.write_new-requires
write_new-requires c =
    let n = c.args.count in
    let t : Lent = lent c.args.valences.now c.args.rings.now in
    let ps = c.args.positions.now in
    let d : Done n n t ps (lent c.write_old-edges.new.valences c.write_old-edges.new.rings) c.write_old-edges.new.positions = record { valences = c.write_old-edges.ensures.valences_after; rings = c.write_old-edges.ensures.rings_after; positions = c.write_old-edges.ensures.positions_after } in
    record { levels = done_levels c.requires d (omega arith); up_to = done_up_to c.requires d (omega arith) }

pub overflow_add-count-3 : goal.overflow_add-count-3
overflow_add-count-3 c =
    let n = c.args.count in
    let t : Lent = lent c.args.valences.now c.args.rings.now in
    let ps = c.args.positions.now in
    let d : Done n n t ps (lent c.write_old-edges.new.valences c.write_old-edges.new.rings) c.write_old-edges.new.positions = record { valences = c.write_old-edges.ensures.valences_after; rings = c.write_old-edges.ensures.rings_after; positions = c.write_old-edges.ensures.positions_after } in
    let f = c.requires.ready.fits in
    omega arith

pub write_sixes-requires : goal.write_sixes-requires
write_sixes-requires c =
    let n = c.args.count in
    let t : Lent = lent c.args.valences.now c.args.rings.now in
    let ps = c.args.positions.now in
    let d : Done n n t ps (lent c.write_old-edges.new.valences c.write_old-edges.new.rings) c.write_old-edges.new.positions = record { valences = c.write_old-edges.ensures.valences_after; rings = c.write_old-edges.ensures.rings_after; positions = c.write_old-edges.ensures.positions_after } in
    let f = c.requires.ready.room.valences in
    let e = done_valence_count c.requires d (omega arith) in
    record { first_le_end = omega arith; end_in_bounds = omega arith }

pub returns : goal.returns
returns c =
    let n = c.args.count in
    let t : Lent = lent c.args.valences.now c.args.rings.now in
    let ps = c.args.positions.now in
    let d : Done n n t ps (lent c.write_old-edges.new.valences c.write_old-edges.new.rings) c.write_old-edges.new.positions = record { valences = c.write_old-edges.ensures.valences_after; rings = c.write_old-edges.ensures.rings_after; positions = c.write_old-edges.ensures.positions_after } in
    record { valences_after = valences_whole c.requires d.valences c.write_old-edges.result c.write_old-edges.ensures.value c.write_sixes.ensures; rings_after = rings_again c.requires d c.write_new.ensures.rings_after; positions_after = positions_again c.requires d c.write_new.ensures.positions_after }
