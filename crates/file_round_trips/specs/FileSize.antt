-- To be believed.
-- How many bytes a file has: 8 of the first record, 6 of the last, and 20 a row with two for each neighbour.
-- Assumes nothing.
use Rattle.std.specs.Prelude.{ℕ, ◌+◌, ◌*◌, List, length}
use Rattle.mesh.specs.Search.{sum}

abbrev pub file_size : ℕ → (ℕ → List ℕ) → ℕ
file_size n ring = 14 + sum (λ v. 20 + 2 * length (ring v)) n
