-- The sum of valences after an edit, and V, E and F with it. Assumes nothing.
use mathlib.Core.Path.{◌≡◌}
use mathlib.Core.List.{List}
use Prim.Native.Nat.{ℕ, ◌+◌, ◌*◌, ◌<◌}
use native.Mathlib.Omega.{arith}
use lib.ListN.{length}
use Rattle.mesh.specs.Search.{sum}
use Rattle.mesh.specs.Ring.{times, ◌∈◌}
use Rattle.mesh.specs.Mesh.{Mesh, Sound, valences, edges, faces, characteristic}
use Rattle.mesh.proofs.Lists.{sum_same, sum_add, sum_times}
use Rattle.mesh.proofs.Edges.{handshake}
use Rattle.mesh.proofs.Faces.{three_faces}
use Rattle.steps.proofs.Ints.{sub_eq}

-- vertices that lose an entry, and such as gain one
pub sum_moved : (f g : ℕ → ℕ) (n : ℕ) (less more : List ℕ) → ((x : ℕ) → x ∈ less → x < n) → ((x : ℕ) → x ∈ more → x < n)
    → ((v : ℕ) → v < n → f v + times v less ≡ g v + times v more) → sum f n + length less ≡ sum g n + length more
sum_moved f g n less more l m h =
    let a = sum_add f (λ v. times v less) n in
    let b = sum_add g (λ v. times v more) n in
    let c : sum (λ v. f v + times v less) n ≡ sum (λ v. g v + times v more) n = sum_same _ _ n h in
    omega (arith, sum_times n less l, sum_times n more m)

module _ (M N : Mesh) (S : Sound M) (T : Sound N) (d : ℕ) (count : N.count ≡ M.count + d) (sums : valences N ≡ valences M + 6 * d) where
  pub edges_after : edges N ≡ edges M + 3 * d
  edges_after = omega (arith, handshake M S.proper S.mutual', handshake N T.proper T.mutual')

  pub faces_after : faces N ≡ faces M + 2 * d
  faces_after = omega (arith, three_faces M S, three_faces N T, edges_after)

  pub characteristic_after : characteristic N ≡ characteristic M
  unfolding characteristic
  characteristic_after = sub_eq (N.count + faces N) (edges N) (M.count + faces M) (edges M) (omega (arith, edges_after, faces_after))
