-- `read_lines` meets its contract. Assumes nothing.
use mathlib.Core.Path.{refl}
use Rattle.rings.specs.Verdict.{after}
use Rattle.off_gather.proofs.Rows.{tables_same}
use Rattle.off_reading.proofs.LinesJudged.{tables_long, open_refuses, unfit_refuses, far_refuses, all_accepted}
use Rattle.off_reading.proofs.LinesJudged.{fillable, valences_written, rings_written}
use Rattle.off_reading.proofs.read_lines.Goals as goal

pub judge_vertices-faults-requires : goal.judge_vertices-faults-requires
judge_vertices-faults-requires c =
    let p = c.requires in
    record { count_value = p.count_is; face_lines = p.face_lines; tables = tables_long }

pub returns-then-open-count : goal.returns-then-open-count
unfolding after
returns-then-open-count c =
    record { value = open_refuses c.requires c.judge_vertices-faults.ensures.judged c.if-open-count.true; valences_after = refl; rings_after = refl; positions_after = refl }

pub returns-then-unfit-count : goal.returns-then-unfit-count
unfolding after
returns-then-unfit-count c =
    record { value = unfit_refuses c.requires c.judge_vertices-faults.ensures.judged c.if-open-count.false c.if-unfit-count.true; valences_after = refl; rings_after = refl; positions_after = refl }

pub first_far-far-requires : goal.first_far-far-requires
first_far-far-requires c = c.requires.vertex_lines

pub returns-then-far-count : goal.returns-then-far-count
unfolding after
returns-then-far-count c =
    record { value = far_refuses c.requires c.judge_vertices-faults.ensures.judged c.if-open-count.false c.if-unfit-count.false c.first_far-far.ensures c.if-far-count.true; valences_after = refl; rings_after = refl; positions_after = refl }

pub fill_rings-requires : goal.fill_rings-requires
fill_rings-requires c =
    let p = c.requires in
    record { face_lines = p.face_lines; tables = tables_same c.judge_vertices-faults.ensures.same_room tables_long; fillable = fillable p c.judge_vertices-faults.ensures.judged c.if-open-count.false c.if-unfit-count.false }

pub fill_points-requires : goal.fill_points-requires
fill_points-requires c =
    let p = c.requires in
    record { vertex_lines = p.vertex_lines; count_in_bounds = p.points_room }

pub returns : goal.returns
unfolding after
returns c =
    let f = c.fill_rings.ensures in
    record { value = all_accepted c.requires c.judge_vertices-faults.ensures.judged c.if-open-count.false c.if-unfit-count.false c.first_far-far.ensures c.if-far-count.false; valences_after = valences_written _ f; rings_after = rings_written _ f; positions_after = c.fill_points.ensures.is }
