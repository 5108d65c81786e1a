-- `coordinate_at` meets its contract. Assumes nothing.
use mathlib.Core.Path.{ap, ◌∙◌}
use mir.Syntax.{w32}
use mir.ValLaws.{to_z-of_z}
use Rattle.file_format.specs.Bytes.{coordinate_of}
use Rattle.file_format.proofs.bytes.coordinate_at.Goals as goal

pub coordinate_of-requires : goal.coordinate_of-requires
coordinate_of-requires c = c.four_at.ensures.upper_bound

pub returns : goal.returns
returns c = to_z-of_z w32 c.coordinate_of.result (record { sfits = c.coordinate_of.type_inv }) ∙ c.coordinate_of.ensures ∙ ap coordinate_of c.four_at.ensures.value
