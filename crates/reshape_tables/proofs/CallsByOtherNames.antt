-- An edge named from its other end and a face named from another corner are the same call (document 02, order 1): the same answer, the same tables.
-- Assumes nothing.
use mathlib.Core.Path.{◌≡◌, refl, ap, ◌∙◌}
use mathlib.Core.Bool.{Bool, true, false, ◌||◌}
use mathlib.Core.List.{List}
use Prim.Native.Nat.{ℕ}
use native.Mathlib.Nat.{min_comm, max_comm}
use lib.Dec.{leb}
use lib.IntN.{ℤ}
use borrow.Author.Tests.{leb-false}
use Rattle.mesh.proofs.First.{or_false}
use Rattle.mesh.specs.Mesh.{Sound}
use Rattle.mesh.proofs.First.{or_comm, or_swap}
use Rattle.rings.specs.Table.{Lent, rows}
use Rattle.rings.specs.Verdict.{refuse_if, and_then}
use Rattle.rings.specs.Check.{check_verdict}
use Rattle.rings.proofs.Accepted.{accepted_only}
use Rattle.reshape.specs.Reshape.{split_edge, split_face, flip}
use Rattle.reshape.proofs.EitherEnd.{no_face_from_any_corner, full_corner_from_any_corner, corners_from_any_corner}
use Rattle.reshape_tables.specs.Calls.{edge_verdict, face_verdict, turn_verdict, new_verdict}
use Rattle.reshape_tables.specs.Calls.{split_edge_verdict, split_face_verdict, flip_verdict, edge_splitting, face_splitting, edge_flipping}
use Rattle.reshape_tables.proofs.Judged.{face_split_judged}
use Rattle.rings.specs.Refusal.{Verdict}
use Rattle.std.specs.Prelude.{Ok, Err}

module _ (n : ℕ) (t : Lent) (ps : List ℤ) where
  edge_verdict_same : (u v : ℕ) → edge_verdict n t u v ≡ edge_verdict n t v u
  unfolding edge_verdict
  edge_verdict_same u v = rw (min_comm u v, max_comm u v, or_comm (leb n u) (leb n v))

  pub edge_split_from_either_end : (u v : ℕ) → edge_splitting n t ps u v ≡ edge_splitting n t ps v u
  unfolding edge_splitting split_edge_verdict split_edge
  edge_split_from_either_end u v = rw (edge_verdict_same u v, min_comm u v, max_comm u v)

  pub edge_flip_from_either_end : (u v : ℕ) → edge_flipping n t ps u v ≡ edge_flipping n t ps v u
  unfolding edge_flipping flip_verdict turn_verdict flip
  edge_flip_from_either_end u v = rw (edge_verdict_same u v, min_comm u v, max_comm u v)

module _ (n : ℕ) (t : Lent) where
  -- in a sound mesh
  face_verdict_same : Sound (rows n t) → (u v w : ℕ) → face_verdict n t u v w ≡ face_verdict n t v w u
  unfolding face_verdict refuse_if rows
  face_verdict_same S u v w = go (leb n u || (leb n v || leb n w)) refl
    where
      turned : leb n v || (leb n w || leb n u) ≡ leb n u || (leb n v || leb n w)
      turned = ap (λ (z : Bool). leb n v || z) (or_comm (leb n w) (leb n u)) ∙ or_swap (leb n v) (leb n u) (leb n w)

      go : (b : Bool) → leb n u || (leb n v || leb n w) ≡ b → face_verdict n t u v w ≡ face_verdict n t v w u
      go true e = rw (turned, e)
      go false e =
          let k = or_false (leb n u) (leb n v || leb n w) e in
          let j = or_false (leb n v) (leb n w) k.1 in
          rw (turned, e)
          (rw (no_face_from_any_corner (rows n t) S u v w (leb-false n v j.0) (leb-false n w j.1), full_corner_from_any_corner (rows n t) u v w))

  module _ (ps : List ℤ) (u v w : ℕ) where
    pub face_verdict_from_any_corner : split_face_verdict n t ps u v w ≡ split_face_verdict n t ps v w u
    unfolding split_face_verdict and_then
    face_verdict_from_any_corner = go (check_verdict n t ps) refl
      where
        go : (c : Verdict) → check_verdict n t ps ≡ c
            → and_then (check_verdict n t ps) (and_then (face_verdict n t u v w) (new_verdict n t ps))
            ≡ and_then (check_verdict n t ps) (and_then (face_verdict n t v w u) (new_verdict n t ps))
        go (Ok _) e = rw (face_verdict_same (accepted_only n t ps e).sound u v w)
        go (Err r) e = rw e

    -- and an accepted one is the same edit
    pub face_split_from_any_corner : split_face_verdict n t ps u v w ≡ Ok tt → face_splitting n t ps u v w ≡ face_splitting n t ps v w u
    unfolding face_splitting split_face rows
    face_split_from_any_corner h =
        let j = face_split_judged n t ps u v w h in
        rw (face_verdict_from_any_corner, corners_from_any_corner (rows n t) j.0.sound u v w j.1.v_lt j.1.face)
