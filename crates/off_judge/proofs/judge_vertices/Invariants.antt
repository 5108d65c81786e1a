use Rattle.off_text.specs.Layout.{text_count}
use Rattle.off_gather.specs.Gathering.{SameRoom}
use Rattle.off_blocks.specs.Blocks.{Tables, ahead}
use Rattle.off_judge.specs.Judging.{Sofar}
use Rattle.off_judge.proofs.judge_vertices.Given as goal

abbrev pub invariant-loop-step : goal.invariant-loop-step
invariant-loop-step l = record {
  sofar : Sofar l.text l.step.at l.step.width l.step.unfit;
  tables : Tables l.counts l.froms l.tos;
  same : SameRoom l.initial.counts l.initial.froms l.initial.tos l.counts l.froms l.tos;
}

abbrev pub decreases-loop-step : goal.decreases-loop-step
decreases-loop-step l = ahead (text_count l.text) l.step.at l.step.width
