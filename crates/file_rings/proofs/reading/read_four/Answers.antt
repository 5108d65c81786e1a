-- `read_four` meets its contract. Assumes nothing.
use native.Mathlib.Omega.{arith}
use lib.ListN.{length-set}
use Rattle.file_rings.proofs.RingRead.{four_read}
use Rattle.file_rings.proofs.reading.read_four.Goals as goal

pub bounds-rings-place-2 : goal.bounds-rings-place-2
bounds-rings-place-2 c = simp length-set (omega arith)

pub bounds-rings-place-3 : goal.bounds-rings-place-3
bounds-rings-place-3 c = simp length-set (omega arith)

pub bounds-rings-place-4 : goal.bounds-rings-place-4
bounds-rings-place-4 c = simp length-set (omega arith)

pub returns : goal.returns
returns c =
    let a = c.args in
    let b = a.bytes.now in
    let f = a.from in
    let i = a.i in
    four_read b f i c.two_at-a.ensures.value c.two_at-b.ensures.value c.two_at-c.ensures.value c.two_at-d.ensures.value (omega arith)
