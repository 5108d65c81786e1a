-- To be believed.
-- Mirrored lists of moves (document 02, order 3): move by move, and call by call.
-- Assumes nothing.
use Rattle.std.specs.Prelude.{◌≡◌, List, [], ◌∷◌, map, length}
use Rattle.mirror.specs.MirroredMove.{mirrored_change}
use Rattle.move_plan.specs.declared.Move.{Move}
use Rattle.move_lists.specs.Fresh.{ListCall}

-- the same vertex, and the mirrored change
abbrev pub mirrored_move : Move → Move
mirrored_move m = record { vertex = m.vertex; change = mirrored_change m.change }

abbrev pub mirrored_list : List Move → List Move
mirrored_list ms = map mirrored_move ms

-- the left call and the right one: maps of the same length, and the moves mirrored
pub record MirroredCall (c d : ListCall) : Type 0 where
  pub words : length d.map ≡ length c.map
  pub moves : d.moves ≡ mirrored_list c.moves

-- as many calls on both sides, mirrored one by one
abbrev pub MirroredCalls : List ListCall → List ListCall → Type 0
MirroredCalls [] [] = Unit {0}
MirroredCalls [] (d ∷ ds) = ⊥
MirroredCalls (c ∷ cs) [] = ⊥
MirroredCalls (c ∷ cs) (d ∷ ds) = MirroredCall c d × MirroredCalls cs ds
