-- To be believed.
-- Moves as plain records: what a record of each kind means, and what a list of records answers.
-- Assumes nothing.
use Rattle.std.specs.Prelude.{cond, ◌&&◌, List, map, ℕ, eqb, ltb, ℤ, get_or}
use Rattle.rings.specs.Refusal.{Paper, refused}
use Rattle.rings.specs.Paper.{paper_amount}
use Rattle.move_lists.specs.Apply.{apply_answer}
use Rattle.millimetres.specs.declared.Change.TheVariants.{Place, Shift, Stretch}
use Rattle.rings.specs.Table.{Lent}
use Rattle.move_plan.specs.declared.Move.{Move}
use Rattle.c_moves.specs.declared.MoveRecord.{MoveRecord}

-- the move that a record means: kind 0 is a placing, 1 a shift, 2 a stretch; one of an unknown kind is of a vertex that no mesh has, so that the list is refused at its place
unfoldable pub move_of : MoveRecord → Move
move_of r =
    cond (eqb r.kind 0) (record { vertex = r.vertex; change = Place r.x r.y r.z })
    (cond (eqb r.kind 1) (record { vertex = r.vertex; change = Shift r.x r.y r.z })
    (cond (eqb r.kind 2) (record { vertex = r.vertex; change = Stretch r.x r.y r.z })
    (record { vertex = 4294967295; change = Place r.x r.y r.z })))

-- an answer at a record of this kind: 99, the C interface's own number, in place of 3 where the kind is unknown
unfoldable pub by_kind : ℕ → Paper → Paper
by_kind kind p = cond (ltb 2 kind && eqb p.number 3) (refused 99 p.place 0) p

-- an answer by the kind of the record at its place, if there is one
unfoldable pub by_kinds : List MoveRecord → Paper → Paper
by_kinds list p = by_kind (get_or (map (λ r. r.kind) list) p.place 0) p

-- the moves that a list of records means
abbrev pub moves_of : List MoveRecord → List Move
moves_of list = map move_of list

-- what a list of records answers: what its moves answer, by the kinds
unfoldable pub records_answer : ℕ → ℕ → Lent → List ℤ → List ℕ → List MoveRecord → Paper
records_answer n levels t ps words list = by_kinds list (paper_amount (apply_answer n levels t ps words (moves_of list)))
