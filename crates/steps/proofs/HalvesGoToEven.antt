-- The examples of document 02's order 2, and their mirror images. Assumes nothing.
use mathlib.Core.Path.{◌≡◌, refl}
use lib.IntN.{pos, negsuc}
use Rattle.steps.specs.Round.{rounded, round_nat}

-- -1/2 and 1/2 give 0, -3/2 gives -2, and 3/2 gives 2
pub halves_go_to_even : (rounded (negsuc 0) 2 ≡ pos 0) × (rounded (pos 1) 2 ≡ pos 0) × (rounded (negsuc 2) 2 ≡ negsuc 1) × (rounded (pos 3) 2 ≡ pos 2)
unfolding rounded round_nat
halves_go_to_even = (refl, refl, refl, refl)
