-- `write_edge_split` meets its contract. Assumes nothing.
use Prim.Native.Nat.{ℕ}
use native.Mathlib.Omega.{arith}
use lib.Dec.{lit≤}
use lib.ListN.{drop}
use Rattle.rings.specs.Table.{Lent, lent, ring_of}
use Rattle.reshape.specs.Reshape.{edge_rows_of}
use Rattle.reshape_rows.proofs.WrittenSofar.{Sofar, none_yet, ready_on, row_on, put_on, exchanged_on}
use Rattle.reshape_rows.proofs.write_edge_split.Goals as goal

pub put_after-requires : goal.put_after-requires
put_after-requires c =
    let Split : ℕ → Lent → Type 0 = λ k t. let g = c.args in
    let old = ring_of (lent g.valences.now g.rings.now) in
    Sofar (drop k (edge_rows_of old g.p g.q g.a g.b g.x)) (lent g.valences.now g.rings.now) t in
    let x-written : Split 4 (lent c.write_ring.new.valences c.write_ring.new.rings) = row_on none_yet c.requires.new_ready.row (lit≤ tt) (c.write_ring.ensures.rings_after, c.write_ring.ensures.valences_after) in
    record { ready = ready_on x-written c.requires.edge_ready.at_b (omega (arith, c.requires.edge_ready.b_lt), tt); x_lt_null_vertex = omega (arith, c.requires.new_ready.number) }

pub put_after-requires-2 : goal.put_after-requires-2
put_after-requires-2 c =
    let Split : ℕ → Lent → Type 0 = λ k t. let g = c.args in
    let old = ring_of (lent g.valences.now g.rings.now) in
    Sofar (drop k (edge_rows_of old g.p g.q g.a g.b g.x)) (lent g.valences.now g.rings.now) t in
    let x-written : Split 4 (lent c.write_ring.new.valences c.write_ring.new.rings) = row_on none_yet c.requires.new_ready.row (lit≤ tt) (c.write_ring.ensures.rings_after, c.write_ring.ensures.valences_after) in
    let b-written : Split 3 (lent c.put_after.new.valences c.put_after.new.rings) = let e = c.requires.edge_ready in
    put_on x-written e.at_b (omega (arith, e.b_lt), tt) _ (c.put_after.ensures.rings_after, c.put_after.ensures.valences_after) in
    record { ready = ready_on b-written c.requires.edge_ready.at_a (c.requires.edge_ready.apart.a_b, (omega (arith, c.requires.edge_ready.a_lt), tt)); x_lt_null_vertex = omega (arith, c.requires.new_ready.number) }

pub exchange-requires : goal.exchange-requires
exchange-requires c =
    let Split : ℕ → Lent → Type 0 = λ k t. let g = c.args in
    let old = ring_of (lent g.valences.now g.rings.now) in
    Sofar (drop k (edge_rows_of old g.p g.q g.a g.b g.x)) (lent g.valences.now g.rings.now) t in
    let x-written : Split 4 (lent c.write_ring.new.valences c.write_ring.new.rings) = row_on none_yet c.requires.new_ready.row (lit≤ tt) (c.write_ring.ensures.rings_after, c.write_ring.ensures.valences_after) in
    let b-written : Split 3 (lent c.put_after.new.valences c.put_after.new.rings) = let e = c.requires.edge_ready in
    put_on x-written e.at_b (omega (arith, e.b_lt), tt) _ (c.put_after.ensures.rings_after, c.put_after.ensures.valences_after) in
    let a-written : Split 2 (lent c.put_after-2.new.valences c.put_after-2.new.rings) = let e = c.requires.edge_ready in
    put_on b-written e.at_a (e.apart.a_b, (omega (arith, e.a_lt), tt)) _ (c.put_after-2.ensures.rings_after, c.put_after-2.ensures.valences_after) in
    let e = c.requires.edge_ready in
    record { ready = ready_on a-written e.at_q (e.apart.q_a, (e.apart.q_b, (omega (arith, e.q_lt), tt))); x_lt_null_vertex = omega (arith, c.requires.new_ready.number) }

pub exchange-requires-2 : goal.exchange-requires-2
exchange-requires-2 c =
    let Split : ℕ → Lent → Type 0 = λ k t. let g = c.args in
    let old = ring_of (lent g.valences.now g.rings.now) in
    Sofar (drop k (edge_rows_of old g.p g.q g.a g.b g.x)) (lent g.valences.now g.rings.now) t in
    let x-written : Split 4 (lent c.write_ring.new.valences c.write_ring.new.rings) = row_on none_yet c.requires.new_ready.row (lit≤ tt) (c.write_ring.ensures.rings_after, c.write_ring.ensures.valences_after) in
    let b-written : Split 3 (lent c.put_after.new.valences c.put_after.new.rings) = let e = c.requires.edge_ready in
    put_on x-written e.at_b (omega (arith, e.b_lt), tt) _ (c.put_after.ensures.rings_after, c.put_after.ensures.valences_after) in
    let a-written : Split 2 (lent c.put_after-2.new.valences c.put_after-2.new.rings) = let e = c.requires.edge_ready in
    put_on b-written e.at_a (e.apart.a_b, (omega (arith, e.a_lt), tt)) _ (c.put_after-2.ensures.rings_after, c.put_after-2.ensures.valences_after) in
    let q-written : Split 1 (lent c.put_after-2.new.valences c.exchange.new.rings) = let e = c.requires.edge_ready in
    exchanged_on a-written e.at_q (e.apart.q_a, (e.apart.q_b, (omega (arith, e.q_lt), tt))) _ (c.exchange.ensures.rings_after, c.exchange.ensures.valences_value) in
    let e = c.requires.edge_ready in
    record { ready = ready_on q-written e.at_p (e.apart.p_q, (e.apart.p_a, (e.apart.p_b, (omega (arith, e.p_lt), tt)))); x_lt_null_vertex = omega (arith, c.requires.new_ready.number) }

pub returns : goal.returns
returns c =
    let Split : ℕ → Lent → Type 0 = λ k t. let g = c.args in
    let old = ring_of (lent g.valences.now g.rings.now) in
    Sofar (drop k (edge_rows_of old g.p g.q g.a g.b g.x)) (lent g.valences.now g.rings.now) t in
    let x-written : Split 4 (lent c.write_ring.new.valences c.write_ring.new.rings) = row_on none_yet c.requires.new_ready.row (lit≤ tt) (c.write_ring.ensures.rings_after, c.write_ring.ensures.valences_after) in
    let b-written : Split 3 (lent c.put_after.new.valences c.put_after.new.rings) = let e = c.requires.edge_ready in
    put_on x-written e.at_b (omega (arith, e.b_lt), tt) _ (c.put_after.ensures.rings_after, c.put_after.ensures.valences_after) in
    let a-written : Split 2 (lent c.put_after-2.new.valences c.put_after-2.new.rings) = let e = c.requires.edge_ready in
    put_on b-written e.at_a (e.apart.a_b, (omega (arith, e.a_lt), tt)) _ (c.put_after-2.ensures.rings_after, c.put_after-2.ensures.valences_after) in
    let q-written : Split 1 (lent c.put_after-2.new.valences c.exchange.new.rings) = let e = c.requires.edge_ready in
    exchanged_on a-written e.at_q (e.apart.q_a, (e.apart.q_b, (omega (arith, e.q_lt), tt))) _ (c.exchange.ensures.rings_after, c.exchange.ensures.valences_value) in
    let p-written : Split 0 (lent c.put_after-2.new.valences c.exchange-2.new.rings) = let e = c.requires.edge_ready in
    exchanged_on q-written e.at_p (e.apart.p_q, (e.apart.p_a, (e.apart.p_b, (omega (arith, e.p_lt), tt)))) _ (c.exchange-2.ensures.rings_after, c.exchange-2.ensures.valences_value) in
    let f = p-written in
    record { rings_after = f.rings; valences_after = f.valences }
