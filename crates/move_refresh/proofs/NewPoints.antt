-- What is read of a new vertex is so: its edge, the vertices beside it, and its mask. Assumes nothing.
use Prim.Native.Nat.{ℕ, ◌+◌, ◌*◌, ◌≤◌, ◌<◌}
use mathlib.Core.Path.{◌≡◌, sym, ap, subst, ◌∙◌}
use mathlib.Core.List.{List}
use mathlib.Core.Logic.{⊎_elim}
use native.Mathlib.Omega.{arith}
use lib.IntN.{ℤ}
use lib.ListN.{get_or}
use Rattle.mesh.specs.Ring.{◌∈◌, next}
use Rattle.mesh.specs.Mesh.{Mesh, edges}
use Rattle.mesh.proofs.Lists.{lt_split}
use Rattle.mesh.proofs.SoundMeshes.{Face, face_at_lem, edge_lt, edge_ne, prev_next}
use Rattle.mesh.proofs.Rings.{next_in}
use Rattle.loop_step.specs.Refine.{mid}
use Rattle.loop_step.specs.Loop.{edge_mask, loop_mask}
use Rattle.loop_step.proofs.EdgeNumbers.{mid_symmetric, mid_in_range}
use Rattle.loop_step.proofs.LoopMasks.{edge_mask_lem}
use Rattle.units.specs.declared.Point.{Point}
use Rattle.rings.specs.Table.{Lent, put, rows}
use Rattle.loop_points.specs.Level.{Ready, Levels, point_by, coordinates}
use Rattle.move_touched.specs.NextLevel.{NextRings}
use Rattle.move_refresh.specs.NewPoint.{low_read, high_read, far_end, EdgeAt, beside_a, beside_b, mask_read, NewReady}
use Rattle.move_touched.proofs.Ends.{EdgeOf, ends_read, place_p, place_q, place_a, place_b}

-- the new vertex set by what is read, as the code does it
module _ (rings : List ℕ) (n x : ℕ) (ps : List ℤ) where
  abbrev low : ℕ
  low = low_read rings n x

  pub new_set : {a b : ℕ} → a ≡ far_end rings n (beside_a rings n x) low → b ≡ far_end rings n (beside_b rings n x) low → {point : Point}
      → point ≡ point_by (edge_mask low (high_read rings n x) a b) ps → {now : List ℤ} → now ≡ put ps ((n + x) * 3) (coordinates point)
      → now ≡ put ps ((n + x) * 3) (coordinates (point_by (mask_read rings n x) ps))
  unfolding mask_read
  new_set c d e f = f ∙ ap (λ (o : Point). put ps ((n + x) * 3) (coordinates o)) (e ∙ rw (c, d))

module _ {n : ℕ} {t : Lent} (r : Ready n t) (w : NextRings n t) where
  abbrev M : Mesh
  M = rows n t

  module _ (p v : ℕ) (h : p < n) (m : v ∈ (rows n t).ring p) where
    -- the ends of an edge at p, whichever is the lesser
    ends_sum : low_read t.rings n (mid M p v) + high_read t.rings n (mid M p v) ≡ p + v
    unfolding rows
    ends_sum =
        ⊎_elim
        (λ s. omega (arith, place_p r w p v s.1 h m, place_q r w p v s.1 h m))
        (λ s.
        let g : v < n = edge_lt M r.sound p v h m in
        let c : p ∈ M.ring v = r.sound.mutual' p v h m in
        let d = edge_ne M r.sound p v h m in
        let k = s.1 in
        let l : v < p = omega arith in
        rw (mid_symmetric M r.sound p v) (omega (arith, place_p r w v p l g c, place_q r w v p l g c)))
        (lt_split p v)

    far_is : far_end t.rings n (mid M p v) p ≡ v
    unfolding far_end
    far_is = let e = ends_sum in omega arith

    edge_at : EdgeAt t.rings n (mid M p v) p
    unfolding rows
    edge_at =
        let e = ends_sum in
        let k = mid_in_range M r.sound p v h m in
        let b = r.room.rings in
        let f = far_is in
        let g = edge_lt M r.sound p v h m in
        record { row = omega arith; least = omega arith; known = omega arith }

  module _ (x : ℕ) (h : n ≤ x) (g : x < n + edges (rows n t)) where
    abbrev p : ℕ
    p = low_read t.rings n x

    abbrev q : ℕ
    q = high_read t.rings n x

    edge : EdgeOf n t x p q
    edge = ends_read r w x h g

    low_known : p < n
    low_known = let a = edge.low in let b = edge.known in omega arith

    -- a and b
    abbrev a : ℕ
    a = next (M.ring p) q

    abbrev b : ℕ
    b = next (M.ring q) p

    a_in : a ∈ M.ring p
    a_in = next_in (M.ring p) q edge.there

    b_in : b ∈ M.ring p
    unfolding rows
    b_in = let f : Face M r.sound q p b = face_at_lem M r.sound q p edge.known (r.sound.mutual' p q low_known edge.there) in f.tri.1.0

    a_read : beside_a t.rings n x ≡ mid M p a
    a_read = subst (λ (y : ℕ). get_or t.rings ((n + y) * 32 + 5) 0 ≡ mid M p a) (sym edge.number) (place_a r w p q edge.low low_known edge.there)

    b_read : beside_b t.rings n x ≡ mid M p b
    b_read = subst (λ (y : ℕ). get_or t.rings ((n + y) * 32 + 1) 0 ≡ mid M p b) (sym edge.number) (place_b r w p q edge.low low_known edge.there)

    -- the mask of x
    pub mask_is : loop_mask M x ≡ mask_read t.rings n x
    unfolding mask_read rows
    mask_is =
        ap (loop_mask M) edge.number ∙ edge_mask_lem M r.sound p q edge.low low_known edge.there
        ∙ ap (edge_mask p q a) (prev_next M r.sound p q low_known edge.there)
        ∙ sym (rw (a_read, b_read, far_is p a low_known a_in, far_is p b low_known b_in))

    -- what setting x asks
    pub new_ready : {ps : List ℤ} → Levels n t ps → NewReady t.rings n x ps
    new_ready L =
        let f = r.fits in
        let o = L.points in
        let s = r.room.rings in
        record {
          near = L.near;
          fits = omega arith;
          small = omega arith;
          points = omega arith;
          row = omega arith;
          low = low_known;
          high = edge.known;
          a = rw a_read (edge_at p a low_known a_in);
          b = rw b_read (edge_at p b low_known b_in);
        }
