-- `judge_face` meets its contract. Assumes nothing.
use Rattle.rings.proofs.Rows.{fit_row}
use Rattle.reshape_room.proofs.CheckedTables.{in_table}
use Rattle.reshape_face.proofs.FacesJudged.{unknown_u, unknown_v, unknown_w, no_face_lem, face_found, full_u, full_v, full_w, free}
use Rattle.reshape_face.proofs.judge_face.Goals as goal

pub returns-then-count-u : goal.returns-then-count-u
returns-then-count-u c = unknown_u _ _ _ _ _ c.if-count-u.true

pub returns-then-count-v : goal.returns-then-count-v
returns-then-count-v c = unknown_v _ _ _ _ _ c.if-count-u.false c.if-count-v.true

pub returns-then-count-w : goal.returns-then-count-w
returns-then-count-w c = unknown_w _ _ _ _ _ c.if-count-u.false c.if-count-v.false c.if-count-w.true

pub ring_of-requires : goal.ring_of-requires
ring_of-requires c = fit_row c.requires.fit c.if-count-v.false

pub returns-then-not-follows_in : goal.returns-then-not-follows_in
returns-then-not-follows_in c =
    no_face_lem _ _ _ _ _ c.requires c.if-count-u.false c.if-count-v.false c.if-count-w.false
    _ c.ring_of.ensures.result_value _ c.follows_in.ensures c.if-not-follows_in.true

pub is_full-requires : goal.is_full-requires
is_full-requires c =
    let found = face_found _ _ _ _ _ c.requires c.if-count-u.false c.if-count-v.false c.if-count-w.false
    _ c.ring_of.ensures.result_value _ c.follows_in.ensures c.if-not-follows_in.false in
    in_table found.checked _ found.u_lt

pub returns-then-is_full : goal.returns-then-is_full
returns-then-is_full c =
    let found = face_found _ _ _ _ _ c.requires c.if-count-u.false c.if-count-v.false c.if-count-w.false
    _ c.ring_of.ensures.result_value _ c.follows_in.ensures c.if-not-follows_in.false in
    full_u _ _ _ _ _ found _ c.is_full.ensures c.if-is_full.true

pub is_full-requires-2 : goal.is_full-requires-2
is_full-requires-2 c =
    let found = face_found _ _ _ _ _ c.requires c.if-count-u.false c.if-count-v.false c.if-count-w.false
    _ c.ring_of.ensures.result_value _ c.follows_in.ensures c.if-not-follows_in.false in
    in_table found.checked _ found.v_lt

pub returns-then-is_full-2 : goal.returns-then-is_full-2
returns-then-is_full-2 c =
    let found = face_found _ _ _ _ _ c.requires c.if-count-u.false c.if-count-v.false c.if-count-w.false
    _ c.ring_of.ensures.result_value _ c.follows_in.ensures c.if-not-follows_in.false in
    full_v _ _ _ _ _ found _ c.is_full.ensures c.if-is_full.false _ c.is_full-2.ensures c.if-is_full-2.true

pub is_full-requires-3 : goal.is_full-requires-3
is_full-requires-3 c =
    let found = face_found _ _ _ _ _ c.requires c.if-count-u.false c.if-count-v.false c.if-count-w.false
    _ c.ring_of.ensures.result_value _ c.follows_in.ensures c.if-not-follows_in.false in
    in_table found.checked _ found.w_lt

pub returns-then-is_full-3 : goal.returns-then-is_full-3
returns-then-is_full-3 c =
    let found = face_found _ _ _ _ _ c.requires c.if-count-u.false c.if-count-v.false c.if-count-w.false
    _ c.ring_of.ensures.result_value _ c.follows_in.ensures c.if-not-follows_in.false in
    full_w _ _ _ _ _ found _ c.is_full.ensures c.if-is_full.false
    _ c.is_full-2.ensures c.if-is_full-2.false _ c.is_full-3.ensures c.if-is_full-3.true

pub returns : goal.returns
returns c =
    let found = face_found _ _ _ _ _ c.requires c.if-count-u.false c.if-count-v.false c.if-count-w.false
    _ c.ring_of.ensures.result_value _ c.follows_in.ensures c.if-not-follows_in.false in
    free _ _ _ _ _ found _ c.is_full.ensures c.if-is_full.false
    _ c.is_full-2.ensures c.if-is_full-2.false _ c.is_full-3.ensures c.if-is_full-3.false
