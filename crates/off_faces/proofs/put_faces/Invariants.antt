use Rattle.rings.specs.Table.{lent, rows}
use Rattle.off_rings.specs.Listed.{faces_below}
use Rattle.off_text.specs.WriteOff.{face_lines}
use Rattle.off_lines.specs.Written.{Written}
use Rattle.off_faces.proofs.put_faces.Given as goal

abbrev pub invariant-loop-a : goal.invariant-loop-a
invariant-loop-a l = Written l.initial.text l.at (face_lines (faces_below (rows l.count (lent l.valences l.rings)) l.a)) l.text l.end
