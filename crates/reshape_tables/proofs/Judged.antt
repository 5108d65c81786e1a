-- What an accepted verdict of each call tells. Assumes nothing.
use mathlib.Core.Path.{◌≡◌}
use mathlib.Core.Bool.{false, ◌||◌}
use mathlib.Core.List.{List}
use Prim.Native.Nat.{ℕ, suc, ◌+◌, ◌*◌, ◌≤◌, ◌<◌, min, max}
use native.Mathlib.Omega.{arith}
use lib.Dec.{leb}
use lib.IntN.{ℤ}
use lib.ListN.{length}
use borrow.Author.Tests.{leb-false}
use Rattle.mesh.specs.Limits.{most_count}
use Rattle.mesh.proofs.First.{or_false}
use Rattle.rings.specs.Table.{Lent, rows}
use Rattle.rings.specs.Check.{short_tables, check_verdict}
use Rattle.rings.specs.Accepts.{Room, Accepts}
use Rattle.rings.proofs.Verdicts.{if_accepted, then_accepted}
use Rattle.rings.proofs.Checks.{long_tables}
use Rattle.rings.proofs.Accepted.{accepted_only}
use Rattle.reshape.specs.Reshape.{no_edge, no_face, no_number, full_beside, full_corner, cannot_flip}
use Rattle.reshape.proofs.ReshapingKeepsSoundness.{number_there}
use Rattle.reshape_tables.specs.Calls.{edge_verdict, face_verdict, turn_verdict, new_verdict, split_edge_verdict, split_face_verdict, flip_verdict}
use Rattle.std.specs.Prelude.{Ok}

-- there is a number and a row for a new vertex
pub record NewRow (n : ℕ) (t : Lent) (ps : List ℤ) : Type 0 where
  pub number : n < most_count
  pub room : Room (suc n) t
  pub points : n * 3 + 3 ≤ length ps

-- an edge that may be edited so far as reasons 3, 18 and 16 go
pub record EdgeThere (n : ℕ) (t : Lent) (u v : ℕ) : Type 0 where
  pub u_lt : u < n
  pub v_lt : v < n
  pub edge : no_edge (rows n t) (min u v) (max u v) ≡ false
  pub room : full_beside (rows n t) (min u v) (max u v) ≡ false

-- a face that may be split so far as these go
pub record FaceThere (n : ℕ) (t : Lent) (u v w : ℕ) : Type 0 where
  pub u_lt : u < n
  pub v_lt : v < n
  pub w_lt : w < n
  pub face : no_face (rows n t) u v w ≡ false
  pub room : full_corner (rows n t) u v w ≡ false

module _ (n : ℕ) (t : Lent) where
  pub edge_judged : (u v : ℕ) → edge_verdict n t u v ≡ Ok tt → EdgeThere n t u v
  unfolding edge_verdict
  edge_judged u v h =
      let d = if_accepted (leb n u || leb n v) _ _ h in
      let k = or_false (leb n u) (leb n v) d.0 in
      let e = if_accepted (no_edge (rows n t) (min u v) (max u v)) _ _ d.1 in
      let f = if_accepted (full_beside (rows n t) (min u v) (max u v)) _ _ e.1 in
      record { u_lt = leb-false n u k.0; v_lt = leb-false n v k.1; edge = e.0; room = f.0 }

  pub face_judged : (u v w : ℕ) → face_verdict n t u v w ≡ Ok tt → FaceThere n t u v w
  unfolding face_verdict
  face_judged u v w h =
      let d = if_accepted (leb n u || (leb n v || leb n w)) _ _ h in
      let k = or_false (leb n u) (leb n v || leb n w) d.0 in
      let j = or_false (leb n v) (leb n w) k.1 in
      let e = if_accepted (no_face (rows n t) u v w) _ _ d.1 in
      let f = if_accepted (full_corner (rows n t) u v w) _ _ e.1 in
      record { u_lt = leb-false n u k.0; v_lt = leb-false n v j.0; w_lt = leb-false n w j.1; face = e.0; room = f.0 }

  pub turn_judged : (u v : ℕ) → turn_verdict n t u v ≡ Ok tt → cannot_flip (rows n t) (min u v) (max u v) ≡ false
  unfolding turn_verdict
  turn_judged u v h = (if_accepted (cannot_flip (rows n t) (min u v) (max u v)) _ _ h).0

  pub new_judged : (ps : List ℤ) → new_verdict n t ps ≡ Ok tt → NewRow n t ps
  unfolding new_verdict rows
  new_judged ps h =
      let d = if_accepted (no_number (rows n t)) _ _ h in
      let e = if_accepted (short_tables (suc n) t ps) _ _ d.1 in
      let z = long_tables (suc n) t ps e.0 in
      record { number = number_there (rows n t) d.0; room = z.0; points = omega (arith, z.1) }

-- ---- the three calls

module _ (n : ℕ) (t : Lent) (ps : List ℤ) where
  pub edge_split_judged : (u v : ℕ) → split_edge_verdict n t ps u v ≡ Ok tt → Accepts n t ps × EdgeThere n t u v × NewRow n t ps
  unfolding split_edge_verdict
  edge_split_judged u v h =
      let c = then_accepted (check_verdict n t ps) _ h in
      let d = then_accepted (edge_verdict n t u v) _ c.1 in
      (accepted_only n t ps c.0, edge_judged n t u v d.0, new_judged n t ps d.1)

  pub flip_judged : (u v : ℕ) → flip_verdict n t ps u v ≡ Ok tt
      → Accepts n t ps × EdgeThere n t u v × (cannot_flip (rows n t) (min u v) (max u v) ≡ false)
  unfolding flip_verdict
  flip_judged u v h =
      let c = then_accepted (check_verdict n t ps) _ h in
      let d = then_accepted (edge_verdict n t u v) _ c.1 in
      (accepted_only n t ps c.0, edge_judged n t u v d.0, turn_judged n t u v d.1)

  pub face_split_judged : (u v w : ℕ) → split_face_verdict n t ps u v w ≡ Ok tt → Accepts n t ps × FaceThere n t u v w × NewRow n t ps
  unfolding split_face_verdict
  face_split_judged u v w h =
      let c = then_accepted (check_verdict n t ps) _ h in
      let d = then_accepted (face_verdict n t u v w) _ c.1 in
      (accepted_only n t ps c.0, face_judged n t u v w d.0, new_judged n t ps d.1)
