-- What is judged is ready to be written: an edge and a face with room, and the place of a new vertex. The rows are those of the mesh.
-- Assumes nothing.
use mathlib.Core.Path.{◌≡◌, refl}
use mathlib.Core.List.{List}
use Prim.Native.Nat.{ℕ, ◌+◌, ◌*◌, ◌≤◌, ◌<◌, min, max}
use native.Mathlib.Omega.{arith}
use lib.IntN.{ℤ}
use lib.ListN.{length}
use Rattle.mesh.specs.Limits.{most_valence}
use Rattle.mesh.specs.Mesh.{Mesh}
use Rattle.mesh.specs.Ring.{◌∈◌}
use Rattle.mesh.proofs.SoundMeshes.{Face}
use Rattle.rings.specs.Table.{Lent, rows, ring_of}
use Rattle.rings.specs.Accepts.{Fit, Accepts}
use Rattle.rings.proofs.Rows.{rows_ring}
use Rattle.rings.proofs.Accepted.{accepted_fit, accepted_all}
use Rattle.ring_row.proofs.OneRow.{room_editable}
use Rattle.loop_points.specs.Level.{Near}
use Rattle.reshape.specs.Reshape.{from_smallest, beyond, behind, edge_rows_of, edge_rows, face_rows_of, face_rows, flip_rows_of, flip_rows}
use Rattle.reshape.proofs.Kites.{Kite, kite_at}
use Rattle.reshape.proofs.FaceSplit as T
use Rattle.reshape.proofs.SmallestCorner.{smallest_face}
use Rattle.reshape.proofs.ReshapingKeepsSoundness.{edge_there, face_there, room_beside, room_corners}
use Rattle.reshape_tables.proofs.Judged.{EdgeThere, FaceThere, NewRow}
use Rattle.reshape_entry.proofs.ReadyRows.{fit_ready}
use Rattle.reshape_rows.specs.RowsReady.{EdgeReady, FaceReady, NewReady}

rows_count : (n : ℕ) (t : Lent) → (rows n t).count ≡ n
unfolding rows
rows_count n t = refl

module _ {n : ℕ} {t : Lent} {ps : List ℤ} (c : Accepts n t ps) where
  fit : Fit n t
  fit = accepted_fit n t ps (accepted_all n t ps c)

  ring_at_lem : (v : ℕ) → v < n → (rows n t).ring v ≡ ring_of t v
  ring_at_lem v h = rows_ring n t v h

  -- the edge named by u and v, with its ends in order and the vertices beside them
  module _ {u v : ℕ} (o : EdgeThere n t u v) {p q a b : ℕ} (p_is : p ≡ min u v) (q_is : q ≡ max u v)
      (a_is : a ≡ beyond (rows n t) p q) (b_is : b ≡ behind (rows n t) p q) where
    p_lt : p < n
    p_lt = let x = o.u_lt in let y = o.v_lt in omega arith

    m : q ∈ (rows n t).ring p
    m = rw (p_is, q_is) (edge_there (rows n t) (min u v) (max u v) o.edge)

    kite : Kite (rows n t) c.sound p q a b
    unfolding rows
    kite = rw (a_is, b_is) (kite_at (rows n t) c.sound p q p_lt m)

    short : (v : ℕ) → v < n → length ((rows n t).ring v) + 0 ≤ most_valence
    unfolding rows
    short v h = let l = (c.sound.proper v h).short in omega arith

    pub edge_ready : EdgeReady n t p q a b
    unfolding rows
    edge_ready =
        let M : Mesh = rows n t in
        let k = kite in
        let r = room_beside M p q (rw (p_is, q_is) o.room) in
        let ra : length (M.ring a) < most_valence = rw a_is r.0 in
        let rb : length (M.ring b) < most_valence = rw b_is r.1 in
        record {
          at_p = fit_ready fit 0 p q p_lt (short p p_lt) m;
          at_q = fit_ready fit 0 q p k.fa.u_lt (short q k.fa.u_lt) k.fb.tri.0.0;
          at_a = fit_ready fit 1 a p k.fa.w_lt (omega (arith, ra)) k.fa.tri.2.0;
          at_b = fit_ready fit 1 b q k.fb.w_lt (omega (arith, rb)) k.fb.tri.2.0;
          apart = record { p_q = k.p_q; p_a = k.p_a; p_b = k.p_b; q_a = k.q_a; q_b = k.q_b; a_b = k.a_b };
          p_lt = p_lt;
          q_lt = k.fa.u_lt;
          a_lt = k.fa.w_lt;
          b_lt = k.fb.w_lt;
        }

    pub flip_rows_lem : flip_rows_of (ring_of t) p q a b ≡ flip_rows (rows n t) (min u v) (max u v)
    unfolding flip_rows
    flip_rows_lem =
        let e = edge_ready in
        rw (← p_is, ← q_is, ← a_is, ← b_is, ring_at_lem p e.p_lt, ring_at_lem q e.q_lt, ring_at_lem a e.a_lt, ring_at_lem b e.b_lt)

    pub edge_rows_lem : edge_rows_of (ring_of t) p q a b n ≡ edge_rows (rows n t) (min u v) (max u v)
    unfolding edge_rows
    edge_rows_lem =
        let e = edge_ready in
        rw (rows_count n t, ← p_is, ← q_is, ← a_is, ← b_is, ring_at_lem p e.p_lt, ring_at_lem q e.q_lt, ring_at_lem a e.a_lt, ring_at_lem b e.b_lt)

  -- the face named by u, v and w, from its smallest corner on
  module _ {u v w : ℕ} (o : FaceThere n t u v w) {x y z : ℕ} (x_is : x ≡ (from_smallest u v w).one) (y_is : y ≡ (from_smallest u v w).two)
      (z_is : z ≡ (from_smallest u v w).three) where
    triangle : Face (rows n t) c.sound y x z
    unfolding rows
    triangle =
        let M : Mesh = rows n t in
        rw (x_is, y_is, z_is) (smallest_face M c.sound u v w (face_there M c.sound u v w o.v_lt o.face))

    pub face_ready : FaceReady n t x y z
    unfolding rows
    face_ready =
        let M : Mesh = rows n t in
        let f = triangle in
        let r = room_corners M u v w o.room in
        let rx : length (M.ring x) < most_valence = rw x_is r.0 in
        let ry : length (M.ring y) < most_valence = rw y_is r.1 in
        let rz : length (M.ring z) < most_valence = rw z_is r.2 in
        record {
          at_u = fit_ready fit 1 x z f.u_lt (omega (arith, rx)) f.tri.1.0;
          at_v = fit_ready fit 1 y x f.v_lt (omega (arith, ry)) f.tri.0.0;
          at_w = fit_ready fit 1 z y f.w_lt (omega (arith, rz)) f.tri.2.0;
          u_v = T.u_v M c.sound f;
          u_w = T.u_w M c.sound f;
          v_w = T.v_w M c.sound f;
          u_lt = f.u_lt;
          v_lt = f.v_lt;
          w_lt = f.w_lt;
        }

    pub face_rows_lem : face_rows_of (ring_of t) x y z n ≡ face_rows (rows n t) (from_smallest u v w)
    unfolding face_rows
    face_rows_lem =
        let f = face_ready in
        rw (rows_count n t, ← x_is, ← y_is, ← z_is, ring_at_lem x f.u_lt, ring_at_lem y f.v_lt, ring_at_lem z f.w_lt)

-- vertices below n are below m
pub ready_below : {n m : ℕ} {t : Lent} {p q a b : ℕ} → n ≤ m → EdgeReady n t p q a b → EdgeReady m t p q a b
ready_below l e =
    let x = e.p_lt in
    let y = e.q_lt in
    let z = e.a_lt in
    let w = e.b_lt in
    record {
      at_p = e.at_p;
      at_q = e.at_q;
      at_a = e.at_a;
      at_b = e.at_b;
      apart = e.apart;
      p_lt = omega arith;
      q_lt = omega arith;
      a_lt = omega arith;
      b_lt = omega arith;
    }

-- the new vertex n has a number, a row and a point, and the points before it lie in the range
pub record NewPlace (n : ℕ) (t : Lent) (ps : List ℤ) : Type 0 where
  pub new : NewReady t n
  pub near : Near n ps
  pub point : n * 3 + 3 ≤ length ps

pub new_place : {n : ℕ} {t : Lent} {ps : List ℤ} → Accepts n t ps → NewRow n t ps → NewPlace n t ps
new_place a r = record {
  new = record { row = room_editable r.room (omega arith); number = r.number };
  near = record { points = a.points; near = a.near };
  point = r.points;
}
