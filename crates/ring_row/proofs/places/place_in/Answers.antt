-- `place_in` meets its contract. Assumes nothing.
use mathlib.Core.Path.{ap, ◌∙◌}
use Rattle.mesh.specs.Ring.{place_of}
use Rattle.ring_row.proofs.places.place_in.Goals as goal

pub returns : goal.returns
returns c = c.find.ensures ∙ ap (place_of _) c.ring_of.ensures.result_value
