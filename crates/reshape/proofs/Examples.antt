-- The edits on the tetrahedron and the octahedron of document 01, computed: the rings after each, what stands against a flip,
-- and means.
-- Assumes nothing.
use mathlib.Core.Path.{◌≡◌, refl}
use mathlib.Core.Bool.{true, false}
use mathlib.Core.List.{List, [], ◌∷◌, ◌++◌}
use Prim.Native.Nat.{ℕ, zero, suc}
use lib.ListN.{get_or}
use lib.IntN.{ℤ, pos, negsuc}
use Rattle.mesh.specs.Ring as R
use Rattle.mesh.specs.Edits as D
use Rattle.mesh.specs.Mesh.{Mesh, mesh}
use Rattle.steps.specs.Round as U
use Rattle.steps.specs.Mask as K
use Rattle.reshape.specs.Rows.{rewritten}
use Rattle.reshape.specs.Reshape.{from_smallest, edge_rows, face_rows, flip_rows, split_edge, split_face, flip, cannot_flip, no_edge, no_face}
use Rattle.reshape.specs.Mean.{mean_at}

-- rings of three, four and five
abbrev r3 : ℕ → ℕ → ℕ → List ℕ
r3 a b c = a ∷ b ∷ c ∷ []

abbrev r4 : ℕ → ℕ → ℕ → ℕ → List ℕ
r4 a b c d = a ∷ b ∷ c ∷ d ∷ []

abbrev r5 : ℕ → ℕ → ℕ → ℕ → ℕ → List ℕ
r5 a b c d e = a ∷ b ∷ c ∷ d ∷ e ∷ []

-- the first n of the rings, and all rings of a mesh
abbrev first : (ℕ → List ℕ) → ℕ → List (List ℕ)
first ring zero = []
first ring (suc n) = first ring n ++ (ring n ∷ [])

abbrev rings : Mesh → List (List ℕ)
rings M = first M.ring M.count

-- T and O of document 01
abbrev tetrahedron : Mesh
tetrahedron = mesh 4 (λ v. get_or (r3 1 2 3 ∷ r3 0 3 2 ∷ r3 0 1 3 ∷ r3 0 2 1 ∷ []) v [])

abbrev octahedron : Mesh
octahedron = mesh 6 (λ v. get_or (r4 1 2 3 4 ∷ r4 0 4 5 2 ∷ r4 0 1 5 3 ∷ r4 0 2 5 4 ∷ r4 0 3 5 1 ∷ r4 1 4 3 2 ∷ []) v [])

-- the edge 0, 1 of the tetrahedron split, named from 1
pub edge_of_tetrahedron : rings (split_edge tetrahedron 1 0) ≡ r3 4 2 3 ∷ r3 4 3 2 ∷ r4 0 4 1 3 ∷ r4 0 2 1 4 ∷ r4 0 3 1 2 ∷ []
unfolding split_edge rewritten edge_rows R.next R.prev R.place_after R.place_before R.has D.replace D.insert_after D.opened
edge_of_tetrahedron = refl

-- its face 1, 0, 2 split, which from its smallest corner on is 0, 2, 1
pub face_of_tetrahedron : rings (split_face tetrahedron 1 0 2) ≡ r4 1 4 2 3 ∷ r4 0 3 2 4 ∷ r4 0 4 1 3 ∷ r3 0 2 1 ∷ r3 0 1 2 ∷ []
unfolding split_face rewritten face_rows from_smallest R.has D.insert_after D.opened
face_of_tetrahedron = refl

-- the edge 2, 5 of the octahedron split
pub edge_of_octahedron : rings (split_edge octahedron 2 5)
    ≡ r4 1 2 3 4 ∷ r5 0 4 5 6 2 ∷ r4 0 1 6 3 ∷ r5 0 2 6 5 4 ∷ r4 0 3 5 1 ∷ r4 1 4 3 6 ∷ r4 2 1 5 3 ∷ []
unfolding split_edge rewritten edge_rows R.next R.prev R.place_after R.place_before R.has D.replace D.insert_after D.opened
edge_of_octahedron = refl

-- its face 5, 2, 3 split
pub face_of_octahedron : rings (split_face octahedron 5 2 3)
    ≡ r4 1 2 3 4 ∷ r4 0 4 5 2 ∷ r5 0 1 5 6 3 ∷ r5 0 2 6 5 4 ∷ r4 0 3 5 1 ∷ r5 1 4 3 6 2 ∷ r3 2 5 3 ∷ []
unfolding split_face rewritten face_rows from_smallest R.has D.insert_after D.opened
face_of_octahedron = refl

-- the edge 2, 5 flipped: 3 and 1 are joined
pub flip_of_octahedron : rings (flip octahedron 2 5)
    ≡ r4 1 2 3 4 ∷ r5 0 4 5 3 2 ∷ r3 0 1 3 ∷ r5 0 2 1 5 4 ∷ r4 0 3 5 1 ∷ r3 1 4 3 ∷ []
unfolding flip rewritten flip_rows R.next R.prev R.place_after R.place_before R.has D.insert_after D.erase D.opened D.closed
flip_of_octahedron = refl

-- and flipped back
pub flip_back : rings (flip (flip octahedron 2 5) 3 1) ≡ rings octahedron
unfolding flip rewritten flip_rows R.next R.prev R.place_after R.place_before R.has D.insert_after D.erase D.opened D.closed
flip_back = refl

-- the edge 0, 1, first in both its rings, flipped and flipped back: rings 0 and 1 begin one place later
pub flip_back_turned : rings (flip (flip octahedron 0 1) 2 4)
    ≡ r4 2 3 4 1 ∷ r4 4 5 2 0 ∷ r4 0 1 5 3 ∷ r4 0 2 5 4 ∷ r4 0 3 5 1 ∷ r4 1 4 3 2 ∷ []
unfolding flip rewritten flip_rows R.next R.prev R.place_after R.place_before R.has D.insert_after D.erase D.opened D.closed
flip_back_turned = refl

-- the edge 0, 1 cannot be flipped in the tetrahedron, whose ends have valence 3, and can in the octahedron
pub which_can_flip : (cannot_flip tetrahedron 0 1 ≡ true) × (cannot_flip octahedron 0 1 ≡ false)
unfolding cannot_flip R.next R.prev R.place_after R.place_before R.has
which_can_flip = (refl, refl)

-- a vertex is no neighbour of itself
pub no_edge_to_itself : no_edge tetrahedron 0 0 ≡ true
unfolding no_edge R.has
no_edge_to_itself = refl

-- a face named the other way round is no face
pub other_way_round : (no_face tetrahedron 0 1 3 ≡ false) × (no_face tetrahedron 0 3 1 ≡ true)
unfolding no_face R.follows R.next R.place_after R.has
other_way_round = (refl, refl)

-- one coordinate of four vertices
abbrev coordinate : ℕ → ℤ
coordinate v = get_or (pos 0 ∷ pos 4 ∷ negsuc 2 ∷ pos 4 ∷ []) v (pos 0)

-- the mean of 0 and 4 is 2; of 0, 4 and -3 it is 1/3, rounded to 0; of 4, -3 and 4 it is 5/3, rounded to 2
pub mean_of_edge : mean_at (0 ∷ 1 ∷ []) coordinate ≡ pos 2
unfolding mean_at K.by_mask U.rounded U.round_nat
mean_of_edge = refl

pub mean_of_face : (mean_at (0 ∷ 1 ∷ 2 ∷ []) coordinate ≡ pos 0) × (mean_at (1 ∷ 2 ∷ 3 ∷ []) coordinate ≡ pos 2)
unfolding mean_at K.by_mask U.rounded U.round_nat
mean_of_face = (refl, refl)
