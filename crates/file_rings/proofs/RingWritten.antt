-- What writing the neighbours of a ring shows, and how long they are. Assumes nothing.
use Prim.Native.Nat.{ℕ, ◌+◌, ◌*◌}
use mathlib.Core.Path.{◌≡◌, refl, sym, ap}
use mathlib.Core.List.{List}
use native.Mathlib.Nat.{add-zero}
use lib.ListN.{length, get_or}
use Rattle.rings.specs.Table.{gather}
use Rattle.rings.proofs.Tables.{length_gather}
use Rattle.file_format.specs.Bytes.{bytes_of}
use Rattle.file_format.specs.Blocks.{Put, gather_from}
use Rattle.file_rings.specs.Neighbours.{neighbour_bytes}
use Rattle.file_format.proofs.Blocks.{then, put_is}

pub length_neighbour_bytes : (ring : List ℕ) (n : ℕ) → length (gather (neighbour_bytes ring) n) ≡ n * 2
length_neighbour_bytes ring n = length_gather (neighbour_bytes ring) 2 (λ i. refl) n

-- four neighbours
pub four_put : {l m₁ m₂ m₃ m₄ : List ℕ} {k : ℕ} (ring : List ℕ) (i : ℕ) → Put l k (bytes_of 2 (get_or ring i 0)) m₁ → Put m₁ (k + 2) (bytes_of 2 (get_or ring (i + 1) 0)) m₂ → Put m₂ (k + 4) (bytes_of 2 (get_or ring (i + 2) 0)) m₃
    → Put m₃ (k + 6) (bytes_of 2 (get_or ring (i + 3) 0)) m₄ → Put l k (gather_from (neighbour_bytes ring) i 4) m₄
unfolding gather_from
four_put ring i p q r s =
    then (then (then (put_is (ap (λ (j : ℕ). bytes_of 2 (get_or ring j 0)) (sym (add-zero i))) p) q refl) r refl) s refl
