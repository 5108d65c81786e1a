-- `seek_known` meets its contract. Assumes nothing.
use Prim.Native.Nat.{ℕ, ◌+◌, ◌<◌}
use mathlib.Core.List.{List}
use mathlib.Core.Logic.{⊎_elim}
use lib.ListN.{length}
use borrow.Author.Tests.{ne_eqb}
use Rattle.mesh.specs.Ring.{◌∈◌}
use Rattle.mesh.proofs.Lists.{lt_split}
use Rattle.mesh.proofs.Places.{holds, place_is, place_end}
use Rattle.mesh.proofs.First.{Clear, clear_none, clear_more}
use Rattle.mesh.proofs.Rings.{place_lt}
use native.Mathlib.Omega.{arith}
use Rattle.loop_sweep.proofs.numbers.seek_known.Goals as goal

-- what is there has not been passed by all places
further : (x : ℕ) (l : List ℕ) (i : ℕ) → x ∈ l → i < length l → Clear (holds l x) (i + 1) → i + 1 < length l
further x l i m h k =
    ⊎_elim (λ q. q.1) (λ q. absurd (let e = place_end x l k (omega arith) q.1 in omega (arith, place_lt x l m))) (lt_split (i + 1) (length l))

pub loop-i-init : goal.loop-i-init
loop-i-init c = (omega (arith, place_lt c.args.x c.args.ring.now c.requires), clear_none)

pub loop-i-preserved : goal.loop-i-preserved
loop-i-preserved c =
    let inv = c.loop-i.invariant in
    let k = clear_more inv.1 (ne_eqb _ _ c.loop-i-test.true) in
    (further c.args.x c.args.ring.now c.loop-i.i c.requires inv.0 k, k)

pub returns : goal.returns
returns c =
    let inv = c.loop-i.invariant in place_is c.args.x c.args.ring.now inv.1 inv.0 c.loop-i-test.false
