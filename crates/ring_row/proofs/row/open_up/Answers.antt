-- `open_up` meets its contract. Assumes nothing.
use Prim.Native.Nat.{ℕ, ◌≤◌, ◌+◌}
use mathlib.Core.Path.{◌≡◌, sym, subst, ◌∙◌}
use mathlib.Core.List.{List}
use lib.ListN.{length, take, set, length-set}
use lib.Seq.{get_or-take}
use native.Mathlib.Omega.{arith}
use Rattle.mesh.specs.Edits.{opened}
use Rattle.rings.proofs.Rewrite.{Written, written_start, written_more}
use Rattle.mesh.proofs.EditPlaces.{opened_length, opened_before, opened_at}
use Rattle.ring_row.proofs.RowWritten.{length_front, opened_moved, front_written}
use Rattle.ring_row.proofs.row.open_up.Goals as goal

pub loop-k-init : goal.loop-k-init
loop-k-init c =
    let most : c.args.n ≤ 32 = omega arith in
    let here : c.args.i ≤ length (take c.args.n c.args.row.now) = let f = length_front c.args.row.now c.args.n c.requires.row_len most in omega arith in
    record {
      carried = sym (opened_at _ _ _ 0 here);
      written = written_start (λ j l. sym (get_or-take c.args.n _ j 0 (omega arith)) ∙ sym (opened_before _ _ _ j 0 l here));
    }

pub loop-k-preserved : goal.loop-k-preserved
loop-k-preserved c =
    let most : c.args.n ≤ 32 = omega arith in
    let here : c.args.i ≤ length (take c.args.n c.args.row.now) = let f = length_front c.args.row.now c.args.n c.requires.row_len most in omega arith in
    let w = c.loop-k.invariant.written in
    record {
      carried = c.replace-carry.ensures.value ∙ w.rest _ (omega arith) ∙ sym (get_or-take c.args.n _ c.loop-k.k 0 (omega arith)) ∙ opened_moved _ _ _ here _ c.loop-k.auto.k;
      written = written_more w (omega arith) _ (c.replace-carry.ensures.after ∙ c.loop-k.invariant.carried);
    }

pub pad-requires-clause-row_len : goal.pad-requires-clause-row_len
pad-requires-clause-row_len c = omega (arith, length-set c.loop-k.row c.args.n c.loop-k.carry, c.loop-k.invariant.written.long)

pub returns : goal.returns
returns c =
    let ring : List ℕ = opened (take c.args.n c.args.row.now) c.args.i c.args.x in
    let k : c.loop-k.k ≡ c.args.n = omega arith in
    let whole : Written ring c.args.row.now (c.args.n + 1) (set c.loop-k.row c.args.n c.loop-k.carry) =
    subst (λ (j : ℕ). Written ring c.args.row.now (j + 1) (set c.loop-k.row j c.loop-k.carry)) k
    (written_more c.loop-k.invariant.written (omega arith) _ c.loop-k.invariant.carried) in
    let f = length_front c.args.row.now c.args.n c.requires.row_len (omega arith) in
    let e : length ring ≡ c.args.n + 1 = omega (arith, f, opened_length (take c.args.n c.args.row.now) c.args.i c.args.x) in
    front_written whole _ e (omega arith) (omega arith) _ c.pad.ensures
