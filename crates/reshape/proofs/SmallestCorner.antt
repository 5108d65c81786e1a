-- A face read from its smallest corner on: what holds from any of its corners on holds from there. Assumes nothing.
use mathlib.Core.Logic.{⊎_elim}
use Prim.Native.Nat.{ℕ, min}
use Rattle.mesh.specs.Mesh.{Mesh, Sound}
use Rattle.mesh.proofs.Lists.{lt_split}
use Rattle.mesh.proofs.SoundMeshes.{Face, turned}
use Rattle.reshape.specs.Reshape.{from_smallest}

from_smallest_lem : (P : ℕ → ℕ → ℕ → Type 0) (u v w : ℕ) → P u v w → P v w u → P w u v
    → let c = from_smallest u v w in P c.one c.two c.three
unfolding from_smallest
from_smallest_lem P u v w a b c =
    ⊎_elim
    (λ g. rw g.0 a)
    (λ g. rw g.0 (⊎_elim (λ k. rw k.0 b) (λ k. rw k.0 c) (lt_split v (min w u))))
    (lt_split u (min v w))

pub smallest_face : (M : Mesh) (S : Sound M) (u v w : ℕ) → Face M S v u w → let c = from_smallest u v w in Face M S c.two c.one c.three
smallest_face M S u v w f = from_smallest_lem (λ x y z. Face M S y x z) u v w f (turned M S (turned M S f)) (turned M S f)

-- what holds at each corner
pub smallest_each : (P : ℕ → Type 0) (u v w : ℕ) → P u → P v → P w → let c = from_smallest u v w in P c.one × P c.two × P c.three
smallest_each P u v w a b c = from_smallest_lem (λ x y z. P x × P y × P z) u v w (a, b, c) (b, c, a) (c, a, b)
