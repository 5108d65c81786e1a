-- The length of a file, from the number of vertices and the valences: `file_length`. A file of four vertices of valence 3 has 118 bytes: `tetrahedron_length`. Assumes nothing.
use Prim.Native.Nat.{ℕ, ◌+◌, ◌*◌, ◌<◌}
use mathlib.Core.Path.{◌≡◌, ap, ◌∙◌}
use mathlib.Core.List.{List}
use lib.IntN.{ℤ}
use lib.ListN.{length}
use Rattle.mesh.proofs.Lists.{sum_same}
use Rattle.file_writing.specs.Write.{file_of}
use Rattle.file_writing.proofs.RowsWritten.{length_file}
use Rattle.file_round_trips.specs.FileSize.{file_size}

pub file_length : (n : ℕ) (ring : ℕ → List ℕ) (point : ℕ → ℕ → ℤ) → length (file_of n ring point) ≡ file_size n ring
file_length = length_file

pub tetrahedron_length : (ring : ℕ → List ℕ) (point : ℕ → ℕ → ℤ) → ((v : ℕ) → v < 4 → length (ring v) ≡ 3) → length (file_of 4 ring point) ≡ 118
tetrahedron_length ring point h =
    file_length 4 ring point ∙ ap (λ (k : ℕ). 14 + k) (sum_same (λ v. 20 + 2 * length (ring v)) (λ v. 26) 4 (λ v l. ap (λ (k : ℕ). 20 + 2 * k) (h v l)))
