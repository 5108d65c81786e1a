-- `mark_dependents` meets its contract. Assumes nothing.
use Prim.Native.Nat.{◌+◌}
use native.Mathlib.Omega.{arith}
use lib.ListN.{length-append}
use Rattle.rings.specs.Table.{lent, ring_of}
use Rattle.std.proofs.lemmas.Slice.Zip.{zip_turn, zip_end}
use Rattle.move_touched.proofs.Joined.{joined_none}
use Rattle.move_touched.proofs.Ends.{next_row, next_long}
use Rattle.move_touched.proofs.Marking.{place_ready, place_more, dependents_marked}
use Rattle.move_touched.proofs.marks.mark_dependents.Goals as goal

pub ring_of-next-requires : goal.ring_of-next-requires
ring_of-next-requires c = next_row c.requires.both_levels.ready c.requires.both_levels.rings c.args.t c.requires.t_lt_count

pub loop-u-init : goal.loop-u-init
loop-u-init c = joined_none _ _

pub mark_place-requires : goal.mark_place-requires
mark_place-requires c =
    let t = lent c.args.valences.now c.args.rings.now in
    let z = zip_turn (ring_of t c.args.t) (ring_of t (c.args.count + c.args.t)) _ c.into_iter-u-iterator.result _ c.next.new.self _ (cc) (cc) c.loop-u.yielded_by _ c.in-Some.is c.next.ensures.steps in
    place_ready c.requires.both_levels c.requires.t_lt_count z.0 (z.2 0) (z.3 0) (cc)

pub loop-u-preserved : goal.loop-u-preserved
loop-u-preserved c =
    let t = lent c.args.valences.now c.args.rings.now in
    let z = zip_turn (ring_of t c.args.t) (ring_of t (c.args.count + c.args.t)) _ c.into_iter-u-iterator.result _ c.next.new.self _ (cc) (cc) c.loop-u.yielded_by _ c.in-Some.is c.next.ensures.steps in
    rw (length-append c.loop-u.yielded _) (place_more c.requires.both_levels c.requires.t_lt_count z.0 (z.2 0) (z.3 0) _ c.loop-u.invariant c.mark_place.ensures)

pub returns : goal.returns
returns c =
    let t = lent c.args.valences.now c.args.rings.now in
    let z = zip_end (ring_of t c.args.t) (ring_of t (c.args.count + c.args.t)) _ c.into_iter-u-iterator.result _ c.next.new.self _ (cc) (cc) c.loop-u.yielded_by c.in-None.is c.next.ensures.steps in
    let n = next_long c.requires.both_levels.ready c.requires.both_levels.rings c.args.t c.requires.t_lt_count in
    dependents_marked c.requires.both_levels c.requires.t_lt_count _ c.mark.ensures (omega arith) c.loop-u.invariant
