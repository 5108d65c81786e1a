-- `close_up` meets its contract. Assumes nothing.
use Prim.Native.Nat.{◌<◌, ◌-◌}
use mathlib.Core.Path.{◌≡◌, sym, ◌∙◌}
use lib.ListN.{length, take}
use lib.Seq.{get_or-take}
use native.Mathlib.Omega.{arith}
use Rattle.mesh.specs.Edits.{closed}
use Rattle.rings.proofs.Rewrite.{written_start, written_more}
use Rattle.mesh.proofs.EditPlaces.{closed_length}
use Rattle.ring_row.proofs.RowWritten.{length_front, closed_below, closed_moved, front_written}
use Rattle.ring_row.proofs.row.close_up.Goals as goal

pub loop-k-init : goal.loop-k-init
loop-k-init c =
    let here : c.args.i < length (take c.args.n c.args.row.now) = let f = length_front c.args.row.now c.args.n c.requires.row_len c.requires.n_le_most_valence in omega arith in
    written_start (λ j l. sym (get_or-take c.args.n _ j 0 (omega arith)) ∙ closed_below _ _ here j l)

pub loop-k-preserved : goal.loop-k-preserved
loop-k-preserved c =
    let here : c.args.i < length (take c.args.n c.args.row.now) = let f = length_front c.args.row.now c.args.n c.requires.row_len c.requires.n_le_most_valence in omega arith in
    let w = c.loop-k.invariant in
    written_more w (omega arith) _ (w.rest _ (omega arith) ∙ sym (get_or-take c.args.n _ _ 0 (omega arith)) ∙ closed_moved _ _ here _ c.loop-k.auto.k)

pub pad-requires-clause-row_len : goal.pad-requires-clause-row_len
pad-requires-clause-row_len c = omega (arith, c.loop-k.invariant.long)

pub returns : goal.returns
returns c =
    let f = length_front c.args.row.now c.args.n c.requires.row_len c.requires.n_le_most_valence in
    let here : c.args.i < length (take c.args.n c.args.row.now) = omega arith in
    let e : length (closed (take c.args.n c.args.row.now) c.args.i) ≡ c.args.n - 1 = omega (arith, f, closed_length (take c.args.n c.args.row.now) c.args.i here) in
    front_written c.loop-k.invariant _ e (omega arith) (omega arith) _ c.pad.ensures
