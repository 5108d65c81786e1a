-- Two different meshes have different files: `same_mesh`. Where the files are the same bytes, so are the numbers of vertices, the rings and the coordinates. Assumes nothing.
use Prim.Native.Nat.{ℕ, ◌<◌}
use mathlib.Core.Path.{◌≡◌, sym, ap, subst, ◌∙◌}
use mathlib.Core.List.{List}
use lib.IntN.{ℤ}
use Rattle.file_format.specs.Layout.{file_count, file_ring, file_point}
use Rattle.file_writing.specs.Write.{file_of}
use Rattle.file_round_trips.proofs.Written.{Storable, written_count, written_ring, written_point}

pub same_mesh : (n : ℕ) (ring : ℕ → List ℕ) (point : ℕ → ℕ → ℤ) (n' : ℕ) (ring' : ℕ → List ℕ) (point' : ℕ → ℕ → ℤ) → Storable n ring point → Storable n' ring' point'
    → file_of n ring point ≡ file_of n' ring' point' → (n ≡ n') × ((v : ℕ) → v < n → (ring v ≡ ring' v) × ((axis : ℕ) → axis < 3 → point axis v ≡ point' axis v))
same_mesh n ring point n' ring' point' s s' e =
    let c : n ≡ n' = sym (written_count n ring point s) ∙ ap file_count e ∙ written_count n' ring' point' s' in (
      c,
      λ v l.
          let l' : v < n' = subst (λ (k : ℕ). v < k) c l in (
            sym (written_ring n ring point s v l) ∙ ap (λ (x : List ℕ). file_ring x v) e ∙ written_ring n' ring' point' s' v l',
            λ axis h. sym (written_point n ring point s v l axis h) ∙ ap (λ (x : List ℕ). file_point x axis v) e ∙ written_point n' ring' point' s' v l' axis h,
          ),
    )
