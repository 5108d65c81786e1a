-- To be believed.
-- The whole text of the listing (document 01): the input is read, refined one level in tables for 256 vertices, and level 1 is printed; or one line says why not.
-- Assumes nothing.
use Rattle.std.specs.Prelude.{cond, List, ◌++◌, ℕ, ◌*◌, ltb, ℤ, pos, length, replicate, Ok, Err}
use Rattle.mesh.specs.Limits.{listing_bytes, listing_vertices, most_valence}
use Rattle.rings.specs.Table.{Lent, lent, gather}
use Rattle.rings.specs.declared.Refusal.TheVariants.{NoRoom}
use Rattle.stack_refine.specs.Refinement.{refine_answer, refine_valences, refine_positions}
use Rattle.file_reading.specs.Read.{read_answer, read_valences, read_rings, read_positions}
use Rattle.listing_lines.specs.Lines.{counts_line, vertex_line, refused_line}
use Rattle.rings.specs.Refusal.{Amount, Counted}

-- level 1 behind n control vertices, where refinement answers so and leaves these tables
unfoldable pub level_text : ℕ → List ℕ → List ℤ → Counted → List ℕ
level_text n vs ps (Ok c) = counts_line 1 c.v c.e c.f ++ gather (vertex_line vs ps n) c.v
level_text n vs ps (Err r) = refused_line r

-- the same, where n control vertices are refined in these tables
abbrev pub refined_text : ℕ → Lent → List ℤ → List ℕ
refined_text n t ps = level_text n (refine_valences n 1 t ps) (refine_positions n 1 t ps) (refine_answer n 1 t ps)

-- the same, where reading answers so and leaves these tables
unfoldable pub mesh_text : Lent → List ℤ → Amount → List ℕ
mesh_text t ps (Ok n) = refined_text n t ps
mesh_text t ps (Err r) = refused_line r

-- the same, where the file is read into these tables
unfoldable pub file_text : List ℕ → Lent → List ℤ → List ℕ
file_text s t ps = mesh_text (lent (read_valences s t ps) (read_rings s t ps)) (read_positions s t ps) (read_answer s t ps)

-- an input over 16,384 bytes counts as reason 10, place 0
unfoldable pub listing_text : List ℕ → List ℕ
listing_text s = cond (ltb listing_bytes (length s)) (refused_line NoRoom)
    (file_text s (lent (replicate listing_vertices 0) (replicate (listing_vertices * most_valence) 0)) (replicate (listing_vertices * 3) (pos 0)))
