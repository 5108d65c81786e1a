-- `put_coordinate` meets its contract. Assumes nothing.
use mathlib.Core.Path.{ap, ◌∙◌}
use lib.IntN.{pos}
use lib.ListN.{get_or}
use mir.Syntax.{w32}
use mir.ValLaws.{to_z-of_z}
use Rattle.file_format.specs.Bytes.{bytes_of, bits_of}
use Rattle.file_format.proofs.Blocks.{put_is}
use Rattle.file_writing.proofs.rows.put_coordinate.Goals as goal

pub returns : goal.returns
returns c =
    put_is
    (ap (bytes_of 4) (c.bits_of.ensures ∙ ap bits_of (to_z-of_z w32 (get_or c.args.positions.now c.args.i (pos 0)) (record { sfits = c.bits_of-arg-1.given }))))
    c.put_four.ensures
