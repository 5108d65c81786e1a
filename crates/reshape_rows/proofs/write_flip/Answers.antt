-- `write_flip` meets its contract. Assumes nothing.
use Prim.Native.Nat.{ℕ}
use native.Mathlib.Omega.{arith}
use lib.ListN.{drop}
use Rattle.rings.specs.Table.{Lent, lent, ring_of}
use Rattle.reshape.specs.Reshape.{flip_rows_of}
use Rattle.reshape_rows.proofs.WrittenSofar.{Sofar, none_yet, ready_on, put_on, out_on}
use Rattle.reshape_rows.proofs.write_flip.Goals as goal

pub put_after-requires-2 : goal.put_after-requires-2
put_after-requires-2 c =
    let Flipped : ℕ → Lent → Type 0 = λ k t. let g = c.args in
    Sofar (drop k (flip_rows_of (ring_of (lent g.valences.now g.rings.now)) g.p g.q g.a g.b)) (lent g.valences.now g.rings.now) t in
    let b-written : Flipped 3 (lent c.put_after.new.valences c.put_after.new.rings) = put_on none_yet c.requires.at_b tt _ (c.put_after.ensures.rings_after, c.put_after.ensures.valences_after) in
    let e = c.requires in
    record { ready = ready_on b-written e.at_a (e.apart.a_b, tt); x_lt_null_vertex = omega (arith, e.b_lt) }

pub take_out-requires : goal.take_out-requires
take_out-requires c =
    let Flipped : ℕ → Lent → Type 0 = λ k t. let g = c.args in
    Sofar (drop k (flip_rows_of (ring_of (lent g.valences.now g.rings.now)) g.p g.q g.a g.b)) (lent g.valences.now g.rings.now) t in
    let b-written : Flipped 3 (lent c.put_after.new.valences c.put_after.new.rings) = put_on none_yet c.requires.at_b tt _ (c.put_after.ensures.rings_after, c.put_after.ensures.valences_after) in
    let a-written : Flipped 2 (lent c.put_after-2.new.valences c.put_after-2.new.rings) = let e = c.requires in
    put_on b-written e.at_a (e.apart.a_b, tt) _ (c.put_after-2.ensures.rings_after, c.put_after-2.ensures.valences_after) in
    let e = c.requires in
    ready_on a-written e.at_q (e.apart.q_a, (e.apart.q_b, tt))

pub take_out-requires-2 : goal.take_out-requires-2
take_out-requires-2 c =
    let Flipped : ℕ → Lent → Type 0 = λ k t. let g = c.args in
    Sofar (drop k (flip_rows_of (ring_of (lent g.valences.now g.rings.now)) g.p g.q g.a g.b)) (lent g.valences.now g.rings.now) t in
    let b-written : Flipped 3 (lent c.put_after.new.valences c.put_after.new.rings) = put_on none_yet c.requires.at_b tt _ (c.put_after.ensures.rings_after, c.put_after.ensures.valences_after) in
    let a-written : Flipped 2 (lent c.put_after-2.new.valences c.put_after-2.new.rings) = let e = c.requires in
    put_on b-written e.at_a (e.apart.a_b, tt) _ (c.put_after-2.ensures.rings_after, c.put_after-2.ensures.valences_after) in
    let q-written : Flipped 1 (lent c.take_out.new.valences c.take_out.new.rings) = let e = c.requires in
    out_on a-written e.at_q (e.apart.q_a, (e.apart.q_b, tt)) (c.take_out.ensures.rings_after, c.take_out.ensures.valences_after) in
    let e = c.requires in
    ready_on q-written e.at_p (e.apart.p_q, (e.apart.p_a, (e.apart.p_b, tt)))

pub returns : goal.returns
returns c =
    let Flipped : ℕ → Lent → Type 0 = λ k t. let g = c.args in
    Sofar (drop k (flip_rows_of (ring_of (lent g.valences.now g.rings.now)) g.p g.q g.a g.b)) (lent g.valences.now g.rings.now) t in
    let b-written : Flipped 3 (lent c.put_after.new.valences c.put_after.new.rings) = put_on none_yet c.requires.at_b tt _ (c.put_after.ensures.rings_after, c.put_after.ensures.valences_after) in
    let a-written : Flipped 2 (lent c.put_after-2.new.valences c.put_after-2.new.rings) = let e = c.requires in
    put_on b-written e.at_a (e.apart.a_b, tt) _ (c.put_after-2.ensures.rings_after, c.put_after-2.ensures.valences_after) in
    let q-written : Flipped 1 (lent c.take_out.new.valences c.take_out.new.rings) = let e = c.requires in
    out_on a-written e.at_q (e.apart.q_a, (e.apart.q_b, tt)) (c.take_out.ensures.rings_after, c.take_out.ensures.valences_after) in
    let p-written : Flipped 0 (lent c.take_out-2.new.valences c.take_out-2.new.rings) = let e = c.requires in
    out_on q-written e.at_p (e.apart.p_q, (e.apart.p_a, (e.apart.p_b, tt))) (c.take_out-2.ensures.rings_after, c.take_out-2.ensures.valences_after) in
    let f = p-written in
    record { rings_after = f.rings; valences_after = f.valences }
