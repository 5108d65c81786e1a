-- `write_face_split` meets its contract. Assumes nothing.
use Prim.Native.Nat.{ℕ}
use native.Mathlib.Omega.{arith}
use lib.Dec.{lit≤}
use lib.ListN.{drop}
use Rattle.rings.specs.Table.{Lent, lent, ring_of}
use Rattle.reshape.specs.Reshape.{face_rows_of}
use Rattle.reshape_rows.proofs.WrittenSofar.{Sofar, none_yet, ready_on, row_on, put_on}
use Rattle.reshape_rows.proofs.write_face_split.Goals as goal

pub put_after-requires : goal.put_after-requires
put_after-requires c =
    let Split : ℕ → Lent → Type 0 = λ k t. let g = c.args in
    let old = ring_of (lent g.valences.now g.rings.now) in
    Sofar (drop k (face_rows_of old g.u g.v g.w g.x)) (lent g.valences.now g.rings.now) t in
    let x-written : Split 3 (lent c.write_ring.new.valences c.write_ring.new.rings) = row_on none_yet c.requires.new_ready.row (lit≤ tt) (c.write_ring.ensures.rings_after, c.write_ring.ensures.valences_after) in
    record { ready = ready_on x-written c.requires.face_ready.at_w (omega (arith, c.requires.face_ready.w_lt), tt); x_lt_null_vertex = omega (arith, c.requires.new_ready.number) }

pub put_after-requires-2 : goal.put_after-requires-2
put_after-requires-2 c =
    let Split : ℕ → Lent → Type 0 = λ k t. let g = c.args in
    let old = ring_of (lent g.valences.now g.rings.now) in
    Sofar (drop k (face_rows_of old g.u g.v g.w g.x)) (lent g.valences.now g.rings.now) t in
    let x-written : Split 3 (lent c.write_ring.new.valences c.write_ring.new.rings) = row_on none_yet c.requires.new_ready.row (lit≤ tt) (c.write_ring.ensures.rings_after, c.write_ring.ensures.valences_after) in
    let w-written : Split 2 (lent c.put_after.new.valences c.put_after.new.rings) = let e = c.requires.face_ready in
    put_on x-written e.at_w (omega (arith, e.w_lt), tt) _ (c.put_after.ensures.rings_after, c.put_after.ensures.valences_after) in
    record { ready = ready_on w-written c.requires.face_ready.at_v (c.requires.face_ready.v_w, (omega (arith, c.requires.face_ready.v_lt), tt)); x_lt_null_vertex = omega (arith, c.requires.new_ready.number) }

pub put_after-requires-3 : goal.put_after-requires-3
put_after-requires-3 c =
    let Split : ℕ → Lent → Type 0 = λ k t. let g = c.args in
    let old = ring_of (lent g.valences.now g.rings.now) in
    Sofar (drop k (face_rows_of old g.u g.v g.w g.x)) (lent g.valences.now g.rings.now) t in
    let x-written : Split 3 (lent c.write_ring.new.valences c.write_ring.new.rings) = row_on none_yet c.requires.new_ready.row (lit≤ tt) (c.write_ring.ensures.rings_after, c.write_ring.ensures.valences_after) in
    let w-written : Split 2 (lent c.put_after.new.valences c.put_after.new.rings) = let e = c.requires.face_ready in
    put_on x-written e.at_w (omega (arith, e.w_lt), tt) _ (c.put_after.ensures.rings_after, c.put_after.ensures.valences_after) in
    let v-written : Split 1 (lent c.put_after-2.new.valences c.put_after-2.new.rings) = let e = c.requires.face_ready in
    put_on w-written e.at_v (e.v_w, (omega (arith, e.v_lt), tt)) _ (c.put_after-2.ensures.rings_after, c.put_after-2.ensures.valences_after) in
    record { ready = ready_on v-written c.requires.face_ready.at_u (c.requires.face_ready.u_v, (c.requires.face_ready.u_w, (omega (arith, c.requires.face_ready.u_lt), tt))); x_lt_null_vertex = omega (arith, c.requires.new_ready.number) }

pub returns : goal.returns
returns c =
    let Split : ℕ → Lent → Type 0 = λ k t. let g = c.args in
    let old = ring_of (lent g.valences.now g.rings.now) in
    Sofar (drop k (face_rows_of old g.u g.v g.w g.x)) (lent g.valences.now g.rings.now) t in
    let x-written : Split 3 (lent c.write_ring.new.valences c.write_ring.new.rings) = row_on none_yet c.requires.new_ready.row (lit≤ tt) (c.write_ring.ensures.rings_after, c.write_ring.ensures.valences_after) in
    let w-written : Split 2 (lent c.put_after.new.valences c.put_after.new.rings) = let e = c.requires.face_ready in
    put_on x-written e.at_w (omega (arith, e.w_lt), tt) _ (c.put_after.ensures.rings_after, c.put_after.ensures.valences_after) in
    let v-written : Split 1 (lent c.put_after-2.new.valences c.put_after-2.new.rings) = let e = c.requires.face_ready in
    put_on w-written e.at_v (e.v_w, (omega (arith, e.v_lt), tt)) _ (c.put_after-2.ensures.rings_after, c.put_after-2.ensures.valences_after) in
    let u-written : Split 0 (lent c.put_after-3.new.valences c.put_after-3.new.rings) = let e = c.requires.face_ready in
    put_on v-written e.at_u (e.u_v, (e.u_w, (omega (arith, e.u_lt), tt))) _ (c.put_after-3.ensures.rings_after, c.put_after-3.ensures.valences_after) in
    let f = u-written in
    record { rings_after = f.rings; valences_after = f.valences }
