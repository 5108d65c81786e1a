-- `put_counts` meets its contract. Assumes nothing.
use native.Mathlib.Omega.{arith}
use Rattle.off_lines.proofs.Writing.{counts_length, counts_written}
use Rattle.off_lines.proofs.put_counts.Goals as goal

pub put_number-after_v-requires : goal.put_number-after_v-requires
put_number-after_v-requires c =
    let s = c.args in
    omega (arith, counts_length s.v s.f s.e)

pub put_number-after_f-requires : goal.put_number-after_f-requires
put_number-after_f-requires c =
    let s = c.args in
    omega (arith, counts_length s.v s.f s.e)

pub put_number-requires : goal.put_number-requires
put_number-requires c =
    let s = c.args in
    omega (arith, counts_length s.v s.f s.e)

pub returns : goal.returns
returns c =
    let s = c.args in
    counts_written s.v s.f s.e c.put_number-after_v.ensures c.put_number-after_f.ensures c.put_number.ensures
