-- `pad` meets its contract. Assumes nothing.
use mathlib.Core.Path.{◌∙◌}
use native.Mathlib.Omega.{arith}
use Rattle.ring_row.proofs.RowWritten.{front_padded}
use Rattle.ring_row.proofs.row.pad.Goals as goal

pub write_unused-requires : goal.write_unused-requires
write_unused-requires c =
    record { most_valence_in_bounds = omega arith; used_le_most_valence = c.requires.n_le_most_valence }

pub returns : goal.returns
returns c = c.write_unused.ensures ∙ front_padded _ _ c.requires.row_len c.requires.n_le_most_valence
