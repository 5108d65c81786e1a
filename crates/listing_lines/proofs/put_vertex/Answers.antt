-- `put_vertex` meets its contract. Assumes nothing.
use Prim.Native.Nat.{◌+◌}
use native.Mathlib.Omega.{arith}
use Rattle.numerals.proofs.Digits.{number_fits, signed_fits}
use Rattle.listing_lines.proofs.LinesWritten.{vertex_wrote}
use borrow.Author.Rules.{rules}
use Rattle.listing_lines.proofs.put_vertex.Goals as goal

pub put_number-after_number-requires : goal.put_number-after_number-requires
put_number-after_number-requires c = number_fits _ _ _ _ (omega arith)

pub put_coordinate-after_x-requires : goal.put_coordinate-after_x-requires
put_coordinate-after_x-requires c =
    record { i_in_bounds = search rules; last_in_bounds = signed_fits _ _ _ _ (omega arith) }

pub put_coordinate-after_y-requires : goal.put_coordinate-after_y-requires
put_coordinate-after_y-requires c =
    record { i_in_bounds = search rules; last_in_bounds = signed_fits _ _ _ _ (omega arith) }

pub put_coordinate-after_z-requires : goal.put_coordinate-after_z-requires
put_coordinate-after_z-requires c =
    record { i_in_bounds = search rules; last_in_bounds = signed_fits _ _ _ _ (omega arith) }

pub overflow_cast-valences : goal.overflow_cast-valences
overflow_cast-valences c =
    omega
    (arith, c.type_inv.valences (c.args.base + c.args.j))

pub put_number-requires : goal.put_number-requires
put_number-requires c = number_fits _ _ _ _ (omega arith)

pub returns : goal.returns
returns c =
    let a =
    c.args in
    vertex_wrote a.valences.now a.positions.now a.base a.j c.put_number-after_number.ensures c.put_coordinate-after_x.ensures c.put_coordinate-after_y.ensures c.put_coordinate-after_z.ensures c.put_number.ensures
