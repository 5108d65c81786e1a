-- `write_four` meets its contract. Assumes nothing.
use Prim.Native.Nat.{◌+◌}
use native.Mathlib.Omega.{arith}
use Rattle.file_rings.proofs.RingWritten.{four_put}
use Rattle.file_rings.proofs.writing.write_four.Goals as goal

pub overflow_cast-a : goal.overflow_cast-a
overflow_cast-a c = let a = c.args in omega (arith, c.type_inv.ring a.i)

pub overflow_cast-b : goal.overflow_cast-b
overflow_cast-b c = let a = c.args in omega (arith, c.type_inv.ring (a.i + 1))

pub overflow_cast-c : goal.overflow_cast-c
overflow_cast-c c = let a = c.args in omega (arith, c.type_inv.ring (a.i + 2))

pub overflow_cast-d : goal.overflow_cast-d
overflow_cast-d c = let a = c.args in omega (arith, c.type_inv.ring (a.i + 3))

pub returns : goal.returns
returns c =
    let a = c.args in
    four_put a.ring.now a.i c.put_two.ensures c.put_two-2.ensures c.put_two-3.ensures c.put_two-4.ensures
