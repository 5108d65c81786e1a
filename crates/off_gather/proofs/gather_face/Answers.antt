-- `gather_face` meets its contract. Assumes nothing.
use Rattle.off_gather.proofs.Gathering.{low_none, low_one, low_two, gathered_more}
use Rattle.off_gather.proofs.gather_face.Goals as goal

pub note_in-requires-clause-low : goal.note_in-requires-clause-low
note_in-requires-clause-low c = low_none _ _ _ _ _ c.requires.face_line.number c.requires.gathered

pub note_in-requires-2-clause-low : goal.note_in-requires-2-clause-low
note_in-requires-2-clause-low c = low_one _ _ _ _ _ c.requires.face_line.number c.requires.gathered c.note_in.ensures

pub note_in-requires-3-clause-low : goal.note_in-requires-3-clause-low
note_in-requires-3-clause-low c = low_two _ _ _ _ _ c.requires.face_line.number c.requires.gathered c.note_in.ensures c.note_in-2.ensures

pub returns-clause-value : goal.returns-clause-value
returns-clause-value c =
    (gathered_more _ _ _ _ _ _ _ _ _ _ c.requires.face_line.begins c.requires.face_line.good c.corners_at-f.ensures c.requires.gathered
    c.note_in.ensures c.note_in-2.ensures c.note_in-3.ensures).0

pub returns-clause-gathered_2 : goal.returns-clause-gathered_2
returns-clause-gathered_2 c =
    (gathered_more _ _ _ _ _ _ _ _ _ _ c.requires.face_line.begins c.requires.face_line.good c.corners_at-f.ensures c.requires.gathered
    c.note_in.ensures c.note_in-2.ensures c.note_in-3.ensures).1
