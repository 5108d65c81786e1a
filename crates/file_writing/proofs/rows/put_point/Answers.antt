-- `put_point` meets its contract. Assumes nothing.
use native.Mathlib.Omega.{arith}
use mathlib.Core.Path.{refl}
use Rattle.file_format.proofs.Blocks.{then}
use Rattle.file_writing.proofs.RowsWritten.{put_coordinate}
use Rattle.file_writing.proofs.rows.put_point.Goals as goal

pub returns : goal.returns
returns c =
    let a = c.args in
    let ps = a.positions.now in
    then (then (put_coordinate ps a.v 0 _ (omega arith) c.put_coordinate.ensures) (put_coordinate ps a.v 1 _ refl c.put_coordinate-2.ensures) refl)
    (put_coordinate ps a.v 2 _ refl c.put_coordinate-3.ensures) refl
