-- `split_face` meets its contract. Assumes nothing.
use native.Mathlib.Omega.{arith}
use Rattle.rings.proofs.Verdicts.{handed_on}
use Rattle.reshape_tables.proofs.CallsAnswered.{split_long, split_done}
use Rattle.reshape_mean.proofs.MeanPoints.{none_below, corner_below}
use Rattle.reshape_split_face.proofs.FaceSplitDone.{face_refused, face_splittable, face_place, face_split}
use Rattle.reshape_split_face.proofs.split_face.Goals as goal

pub returns-in_err-u : goal.returns-in_err-u
returns-in_err-u c =
    let t = face_refused _ _ _ _ _ _ c.in_err-u.ensures in
    record { value = handed_on c.from_residual.ensures t.0; rings_after = t.1.0; valences_after = t.1.1.0; positions_after = t.1.1.1 }

pub overflow_cast-corners : goal.overflow_cast-corners
overflow_cast-corners c =
    let ready = face_splittable _ _ _ _ _ _ c.in_ok-u.ensures in
    let place = face_place _ _ _ _ _ _ c.in_ok-u.ensures in
    omega (arith, ready.u_lt, place.new.number)

pub overflow_cast-corners-2 : goal.overflow_cast-corners-2
overflow_cast-corners-2 c =
    let ready = face_splittable _ _ _ _ _ _ c.in_ok-u.ensures in
    let place = face_place _ _ _ _ _ _ c.in_ok-u.ensures in
    omega (arith, ready.v_lt, place.new.number)

pub overflow_cast-corners-3 : goal.overflow_cast-corners-3
overflow_cast-corners-3 c =
    let ready = face_splittable _ _ _ _ _ _ c.in_ok-u.ensures in
    let place = face_place _ _ _ _ _ _ c.in_ok-u.ensures in
    omega (arith, ready.w_lt, place.new.number)

pub mean_point-requires : goal.mean_point-requires
mean_point-requires c =
    let ready = face_splittable _ _ _ _ _ _ c.in_ok-u.ensures in
    let place = face_place _ _ _ _ _ _ c.in_ok-u.ensures in
    let m = place.new.number in
    record {
      near = place.near;
      count_le_most_vertices = omega arith;
      corners_nonzero = omega arith;
      corners_len_bound = omega arith;
      all_below = corner_below ready.u_lt (corner_below ready.v_lt (corner_below ready.w_lt none_below));
    }

pub set_point-requires : goal.set_point-requires
set_point-requires c =
    let place = face_place _ _ _ _ _ _ c.in_ok-u.ensures in
    record { v_le_stack_bound = omega (arith, place.new.number); v_in_bounds = place.point }

pub write_face_split-requires : goal.write_face_split-requires
write_face_split-requires c =
    record { face_ready = face_splittable _ _ _ _ _ _ c.in_ok-u.ensures; new_ready = (face_place _ _ _ _ _ _ c.in_ok-u.ensures).new }

pub overflow_add-count : goal.overflow_add-count
overflow_add-count c = omega (arith, (face_place _ _ _ _ _ _ c.in_ok-u.ensures).new.number)

pub counts-requires : goal.counts-requires
counts-requires c =
    let split = face_split _ _ _ _ _ _ c.in_ok-u.ensures in
    let t = split_long split c.write_face_split.ensures.rings_after c.write_face_split.ensures.valences_after in
    record { count_in_bounds = t.0; count_le_most_count = t.1 }

pub returns : goal.returns
returns c =
    let split = face_split _ _ _ _ _ _ c.in_ok-u.ensures in
    let t = split_done split c.write_face_split.ensures.rings_after c.write_face_split.ensures.valences_after
    c.set_point.ensures c.mean_point.ensures c.counts.ensures in
    record { value = t.0; rings_after = t.1.0; valences_after = t.1.1.0; positions_after = t.1.1.1 }
