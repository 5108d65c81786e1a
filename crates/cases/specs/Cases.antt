-- To be believed.
-- "Small meshes to hold it to": each line is computed by the definitions. The proof is proofs/Cases.antt.
-- Assumes nothing.
use Rattle.std.specs.Prelude.{◌≡◌, true, false, [], ◌∷◌, map, ◌+◌, ◌^◌, eqb, pos, negsuc, length, take, drop, replicate, Ok, Err}
use Rattle.std.specs.Float.{fin}
use Rattle.steps.specs.Round.{rounded}
use Rattle.steps.specs.Mask.{touched, touched_count}
use Rattle.loop_step.specs.Refine.{refine}
use Rattle.loop_step.specs.Loop.{loop}
use Rattle.millimetres.specs.Millimetres.{mm_of}
use Rattle.millimetres.specs.Move.{moved_to}
use Rattle.millimetres.specs.declared.Mm.{Mm}
use Rattle.millimetres.specs.declared.Change.TheVariants.{Place, Shift}
use Rattle.millimetres.specs.declared.Unmoved.TheVariants.{OutOfReach}
use Rattle.rings.specs.Refusal.{accepted, refused}
use Rattle.rings.specs.Paper.{paper_counted, paper_amount}
use Rattle.rings.specs.Table.{lent, coordinate_at}
use Rattle.rings.specs.Check.{check_answer}
use Rattle.ring_query.specs.Paper.{paper_neighbour}
use Rattle.ring_query.specs.Queries.{next_answer}
use Rattle.stack_refine.specs.Refinement.{refine_answer, refine_positions}
use Rattle.move_lists.specs.Apply.{apply_answer, apply_map}
use Rattle.file_reading.specs.Read.{read_rings}
use Rattle.file_writing.specs.Write.{file_of}
use Rattle.listing_text.specs.Listing.{refined_text}
use Rattle.cases.specs.Calls.{tenth, fifth, diagonal, move0, move1, onRefined}
use Rattle.cases.specs.Meshes.{rings_of, tetrahedron_with, tetrahedron, octahedron, mesh_of, valences_of, table_of, corners, roomy, listed, printed}

-- the table of cases
pub record Cases : Type 0 where
  -- 1, and the counts of 3: "T is sound", "T counts: 4, 6, 4 then 10, 24, 16"
  pub sound : paper_counted (check_answer 4 (lent (valences_of tetrahedron) (table_of tetrahedron)) corners) ≡ accepted 4 6 4
  pub counts : paper_counted (refine_answer 4 1 (lent (roomy (valences_of tetrahedron)) (roomy (table_of tetrahedron))) (roomy corners)) ≡ accepted 10 24 16
  -- 2: "T refined: ring 1 is 4 8 7; ring 4 is 0 6 8 1 7 5; ring 9 is 2 7 8 3 6 5"
  pub ring1 : (refine (mesh_of tetrahedron)).ring 1 ≡ 4 ∷ 8 ∷ 7 ∷ []
  pub ring4 : (refine (mesh_of tetrahedron)).ring 4 ≡ 0 ∷ 6 ∷ 8 ∷ 1 ∷ 7 ∷ 5 ∷ []
  pub ring9 : (refine (mesh_of tetrahedron)).ring 9 ≡ 2 ∷ 7 ∷ 8 ∷ 3 ∷ 6 ∷ 5 ∷ []
  -- 4: "14 points written of 24; old vertex 5 and the four edges at 5 aren't"
  pub octahedron14 : touched_count (loop (mesh_of octahedron)) (eqb 0) 2 ≡ 14
  pub counts24 : paper_counted (refine_answer 6 1 (lent (roomy (valences_of octahedron)) (roomy (table_of octahedron))) (roomy (roomy corners))) ≡ accepted 18 48 32
  pub not_touched : map (touched (loop (mesh_of octahedron)) (eqb 0) 1) (5 ∷ 12 ∷ 14 ∷ 16 ∷ 17 ∷ []) ≡ false ∷ false ∷ false ∷ false ∷ false ∷ []
  -- 5: "T, same move of 1: all 10 of level 1 and one control point, 11"
  pub tetrahedron11 : touched_count (loop (mesh_of tetrahedron)) (eqb 1) 2 ≡ 11
  -- the same two as whole calls on the refined stack, with the map: bit 1 and bits 4 to 13
  pub moved14 : paper_amount (onRefined apply_answer octahedron (roomy (roomy corners)) (move0 ∷ [])) ≡ accepted 14 0 0
  pub moved11 : paper_amount (onRefined apply_answer tetrahedron (roomy corners) (move1 ∷ [])) ≡ accepted 11 0 0
  pub mapped14 : onRefined apply_map octahedron (roomy (roomy corners)) (move0 ∷ []) ≡ 2881473 ∷ []
  pub mapped11 : onRefined apply_map tetrahedron (roomy corners) (move1 ∷ []) ≡ 16370 ∷ []
  -- 6: "Placing 0.1 from anywhere: 102; a shift of 0.1 after it: 204; placing 0.2: 205"
  pub placed : (p : Mm) → moved_to p (Place tenth tenth tenth) ≡ Ok (diagonal (pos 102))
  pub shifted : moved_to (mm_of (diagonal (pos 102))) (Shift tenth tenth tenth) ≡ Ok (diagonal (pos 204))
  pub placed_fifth : (p : Mm) → moved_to p (Place fifth fifth fifth) ≡ Ok (diagonal (pos 205))
  -- 7, where 1/2048 and the float after 1024.0 are 1 * 2 ^ -11 and (2 ^ 52 + 1) * 2 ^ -42: "1/2048 mm gives 0" (order 2),
  -- "-1/2048 gives 0; 1024.0 is in, the next float is 14"
  pub small : (p : Mm) → moved_to p (Place (fin false 1 (negsuc 10)) (fin true 1 (negsuc 10)) (fin false 1 (pos 10)))
      ≡ Ok (record { x = pos 0; y = pos 0; z = pos 1048576 })
  pub next_out : (p : Mm) → moved_to p (Place tenth tenth (fin false (2 ^ 52 + 1) (negsuc 41))) ≡ Err OutOfReach
  pub out14 : paper_amount (onRefined apply_answer tetrahedron (roomy corners) (record { vertex = 0; change = Place tenth tenth (fin false (2 ^ 52 + 1) (negsuc 41)) } ∷ []))
      ≡ refused 14 0 0
  -- 8: "T with ring 1 as 0 2 3: 6. T with 0 missing from ring 1: valence 2, so 4"
  pub twisted : paper_counted (check_answer 4 (lent (valences_of tetrahedron) (table_of (tetrahedron_with (0 ∷ 2 ∷ 3 ∷ [])))) corners) ≡ refused 6 0 0
  pub torn : paper_counted (check_answer 4 (lent (valences_of (tetrahedron_with (3 ∷ 2 ∷ []))) (table_of (tetrahedron_with (3 ∷ 2 ∷ [])))) corners) ≡ refused 4 1 0
  -- 9: "next(3 in 0) in T is 1; next(0 in 0) is null"
  pub next_of3 : paper_neighbour (next_answer 4 (lent (valences_of tetrahedron) (table_of tetrahedron)) 0 3) ≡ accepted 1 0 0
  pub next_of0 : paper_neighbour (next_answer 4 (lent (valences_of tetrahedron) (table_of tetrahedron)) 0 0) ≡ accepted 65535 0 0
  -- 10: "T's file is 118 bytes"
  pub bytes118 : length (file_of 4 (rings_of tetrahedron) (coordinate_at corners)) ≡ 118
  pub read_back : read_rings (file_of 4 (rings_of tetrahedron) (coordinate_at corners)) (lent (replicate 4 0) (replicate 128 0)) corners ≡ table_of tetrahedron
  -- order 2: "-1/2 and 1/2 both give 0, -3/2 gives -2"
  pub halves : map (λ n. rounded n 2) (negsuc 0 ∷ pos 1 ∷ negsuc 2 ∷ []) ≡ pos 0 ∷ pos 0 ∷ negsuc 1 ∷ []
  -- the listing's points, behind T's own
  pub listing : take 30 (drop 12 (refine_positions 4 1 (lent (roomy (valences_of tetrahedron)) (roomy (table_of tetrahedron))) (roomy corners))) ≡ listed
  -- and its whole text
  pub text : refined_text 4 (lent (roomy (valences_of tetrahedron)) (roomy (table_of tetrahedron))) (roomy corners) ≡ printed
