-- To be believed.
-- The small meshes of document 01 as lent tables.
-- Assumes nothing.
use Rattle.std.specs.Prelude.{List, [], ◌∷◌, ◌++◌, map, ℕ, ℤ, pos, get_or, length}
use Rattle.mesh.specs.Mesh.{Mesh, mesh}
use Rattle.rings.specs.Table.{valence_rows, ring_rows}

-- the rings of a mesh, one list a vertex
abbrev pub rings_of : List (List ℕ) → ℕ → List ℕ
rings_of rings v = get_or rings v []

-- "Tetrahedron T, rings 0: 1 2 3; 1: 0 3 2; 2: 0 1 3; 3: 0 2 1", with ring 1 as a parameter
abbrev pub tetrahedron_with : List ℕ → List (List ℕ)
tetrahedron_with ring1 = (1 ∷ 2 ∷ 3 ∷ []) ∷ ring1 ∷ (0 ∷ 1 ∷ 3 ∷ []) ∷ (0 ∷ 2 ∷ 1 ∷ []) ∷ []

-- T itself
abbrev pub tetrahedron : List (List ℕ)
tetrahedron = tetrahedron_with (0 ∷ 3 ∷ 2 ∷ [])

-- "Octahedron O, rings 0: 1 2 3 4; 1: 0 4 5 2; 2: 0 1 5 3; 3: 0 2 5 4; 4: 0 3 5 1; 5: 1 4 3 2"
abbrev pub octahedron : List (List ℕ)
octahedron = (1 ∷ 2 ∷ 3 ∷ 4 ∷ []) ∷ (0 ∷ 4 ∷ 5 ∷ 2 ∷ []) ∷ (0 ∷ 1 ∷ 5 ∷ 3 ∷ []) ∷ (0 ∷ 2 ∷ 5 ∷ 4 ∷ []) ∷ (0 ∷ 3 ∷ 5 ∷ 1 ∷ []) ∷ (1 ∷ 4 ∷ 3 ∷ 2 ∷ []) ∷ []

-- as a mesh, and as tables with room for n vertices
abbrev pub mesh_of : List (List ℕ) → Mesh
mesh_of rings = mesh (length rings) (rings_of rings)

-- its valences as a table
abbrev pub valences_of : List (List ℕ) → List ℕ
valences_of rings = valence_rows (rings_of rings) (length rings)

-- its rings as a table
abbrev pub table_of : List (List ℕ) → List ℕ
table_of rings = ring_rows (rings_of rings) (length rings)

-- T at (0,0,0), (1024,0,0), (0,1024,0), (0,0,1024)
abbrev pub corners : List ℤ
corners = pos 0 ∷ pos 0 ∷ pos 0 ∷ pos 1024 ∷ pos 0 ∷ pos 0 ∷ pos 0 ∷ pos 1024 ∷ pos 0 ∷ pos 0 ∷ pos 0 ∷ pos 1024 ∷ []

-- a table with room for a level above, and what the listing prints of level 1's points
abbrev pub roomy {ℓ} : {A : Type ℓ} → List A → List A
roomy t = t ++ (t ++ (t ++ t))

-- the listing's points of level 1, x, y, z
abbrev pub listed : List ℤ
listed =
    map pos
    (192 ∷ 192 ∷ 192
    ∷ 448 ∷ 192 ∷ 192
    ∷ 192 ∷ 448 ∷ 192
    ∷ 192 ∷ 192 ∷ 448
    ∷ 384 ∷ 128 ∷ 128
    ∷ 128 ∷ 384 ∷ 128
    ∷ 128 ∷ 128 ∷ 384
    ∷ 384 ∷ 384 ∷ 128
    ∷ 384 ∷ 128 ∷ 384
    ∷ 128 ∷ 384 ∷ 384
    ∷ [])

-- what the listing program prints of T, line by line, as bytes
abbrev pub printed : List ℕ
printed =
    (49 ∷ 32 ∷ 49 ∷ 48 ∷ 32 ∷ 50 ∷ 52 ∷ 32 ∷ 49 ∷ 54 ∷ 10 ∷ [])
    ++ ((48 ∷ 32 ∷ 49 ∷ 57 ∷ 50 ∷ 32 ∷ 49 ∷ 57 ∷ 50 ∷ 32 ∷ 49 ∷ 57 ∷ 50 ∷ 32 ∷ 51 ∷ 10 ∷ [])
    ++ ((49 ∷ 32 ∷ 52 ∷ 52 ∷ 56 ∷ 32 ∷ 49 ∷ 57 ∷ 50 ∷ 32 ∷ 49 ∷ 57 ∷ 50 ∷ 32 ∷ 51 ∷ 10 ∷ [])
    ++ ((50 ∷ 32 ∷ 49 ∷ 57 ∷ 50 ∷ 32 ∷ 52 ∷ 52 ∷ 56 ∷ 32 ∷ 49 ∷ 57 ∷ 50 ∷ 32 ∷ 51 ∷ 10 ∷ [])
    ++ ((51 ∷ 32 ∷ 49 ∷ 57 ∷ 50 ∷ 32 ∷ 49 ∷ 57 ∷ 50 ∷ 32 ∷ 52 ∷ 52 ∷ 56 ∷ 32 ∷ 51 ∷ 10 ∷ [])
    ++ ((52 ∷ 32 ∷ 51 ∷ 56 ∷ 52 ∷ 32 ∷ 49 ∷ 50 ∷ 56 ∷ 32 ∷ 49 ∷ 50 ∷ 56 ∷ 32 ∷ 54 ∷ 10 ∷ [])
    ++ ((53 ∷ 32 ∷ 49 ∷ 50 ∷ 56 ∷ 32 ∷ 51 ∷ 56 ∷ 52 ∷ 32 ∷ 49 ∷ 50 ∷ 56 ∷ 32 ∷ 54 ∷ 10 ∷ [])
    ++ ((54 ∷ 32 ∷ 49 ∷ 50 ∷ 56 ∷ 32 ∷ 49 ∷ 50 ∷ 56 ∷ 32 ∷ 51 ∷ 56 ∷ 52 ∷ 32 ∷ 54 ∷ 10 ∷ [])
    ++ ((55 ∷ 32 ∷ 51 ∷ 56 ∷ 52 ∷ 32 ∷ 51 ∷ 56 ∷ 52 ∷ 32 ∷ 49 ∷ 50 ∷ 56 ∷ 32 ∷ 54 ∷ 10 ∷ [])
    ++ ((56 ∷ 32 ∷ 51 ∷ 56 ∷ 52 ∷ 32 ∷ 49 ∷ 50 ∷ 56 ∷ 32 ∷ 51 ∷ 56 ∷ 52 ∷ 32 ∷ 54 ∷ 10 ∷ [])
    ++ ((57 ∷ 32 ∷ 49 ∷ 50 ∷ 56 ∷ 32 ∷ 51 ∷ 56 ∷ 52 ∷ 32 ∷ 51 ∷ 56 ∷ 52 ∷ 32 ∷ 54 ∷ 10 ∷ [])))))))))))
