use Rattle.std.proofs.Common.{◌≡◌}
use Rattle.off_text.specs.Layout.{face_line_at}
use Rattle.off_fans.specs.Rows.{Room}
use Rattle.off_gather.specs.Gathering.{SameRoom, Gathered}
use Rattle.off_gather.proofs.gather_faces.Given as goal

abbrev pub invariant-loop-i : goal.invariant-loop-i
invariant-loop-i l = record {
  here : l.at ≡ face_line_at l.text l.i;
  room : Room l.rows l.width l.counts l.froms l.tos;
  same : SameRoom l.initial.counts l.initial.froms l.initial.tos l.counts l.froms l.tos;
  gathered : Gathered l.text l.first l.rows l.width l.i l.counts l.froms l.tos;
}
