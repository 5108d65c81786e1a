-- An accepted reading of a face list (order 4) leaves tables that the check accepts, with V vertices and the rings that the faces mean.
-- Assumes nothing.
use mathlib.Core.Path.{◌≡◌, refl, ap, fun_ext, subst, sym}
use mathlib.Core.Bool.{true, false, not, ◌||◌}
use mathlib.Core.List.{List, [], ◌∷◌}
use mathlib.Core.Logic.{⊎_elim}
use Prim.Native.Nat.{ℕ, zero, suc, ◌*◌, ◌≤◌, ◌<◌}
use native.Mathlib.Omega.{arith}
use lib.Dec.{ltb}
use lib.IntN.{ℤ, nat_abs}
use lib.ListN.{length, get_or}
use borrow.Author.Tests.{lt-ltb, ltb-false, not-false, not-true}
use Rattle.mesh.specs.Limits.{most_units}
use Rattle.mesh.specs.Ring.{◌∈◌}
use Rattle.mesh.specs.Mesh.{mesh, Sound}
use Rattle.mesh.proofs.Lists.{lt_split}
use Rattle.mesh.proofs.First.{Clear, or_false}
use Rattle.units.specs.Coordinate.{InRange, beyond}
use Rattle.rings.specs.Table.{Lent, lent, gather, put, ring_of, rows, padded, valence_rows, ring_rows, point_rows, coordinate_at}
use Rattle.rings.specs.Verdict.{after}
use Rattle.rings.specs.Check.{bad_count, short_tables, check_verdict}
use Rattle.rings.specs.Accepts.{Room}
use Rattle.rings.proofs.Tables.{length_put, length_gather, length_padded}
use Rattle.rings.proofs.Verdicts.{if_accepted, at_accepted, then_accepted}
use Rattle.rings.proofs.Checks.{good_count, long_tables}
use Rattle.rings.proofs.Accepted.{accepted_all}
use Rattle.file_format.proofs.Gathered.{length_rows_below}
use Rattle.file_format.proofs.InTables.{in_valence, in_ring, in_point}
use Rattle.off_numbers.proofs.Scanning.{and_true}
use Rattle.off_rings.specs.Faces.{bad_face, twisted, unfit_faces, face_ring, face_mesh}
use Rattle.off_rings.proofs.AcceptedFacesAreSound.{Taken, taken_sound, begins_with_smallest}
use Rattle.off_text.specs.Layout.{is_word, is_counts, is_vertex, vertex_at, is_corners, is_face, face_line_at, corners_at}
use Rattle.off_text.specs.Layout.{text_count, text_faces, text_face, text_point, text_verdict}
use Rattle.off_text.specs.ReadOff.{text_ring, text_beyond, faces_verdict, read_off_verdict, read_off_valences, read_off_rings, read_off_positions}
use Rattle.std.specs.Prelude.{Ok}

face_good : (s : List ℕ) (at : ℕ) → is_face s at ≡ true → bad_face (text_count s) (corners_at s at) ≡ false
unfolding is_face
face_good s at e = not-true _ (and_true (is_corners s at) (not (bad_face (text_count s) (corners_at s at))) e).1

-- a text in the subset has no bad face
good_faces : (s : List ℕ) → text_verdict s ≡ (Ok tt) → (i : ℕ) → i < text_faces s → bad_face (text_count s) (text_face s i) ≡ false
unfolding text_verdict text_face
good_faces s h i l =
    let a = if_accepted (not (is_word s)) _ _ h in
    let b = if_accepted (not (is_counts s)) _ _ a.1 in
    let c = at_accepted (λ v. not (is_vertex s (vertex_at s v))) (text_count s) _ _ b.1 in
    let d = at_accepted (λ i. not (is_face s (face_line_at s i))) (text_faces s) _ _ c.1 in
    face_good s (face_line_at s i) (not-false _ (d.0.below i l))

module _ (s : List ℕ) (t : Lent) (ps : List ℤ) where
  -- the stages of an accepted reading
  record Passed : Type 0 where
    pub text : text_verdict s ≡ (Ok tt)
    pub counted : bad_count (text_count s) ≡ false
    pub long : short_tables (text_count s) t ps ≡ false
    pub closed : Clear (twisted (text_count s) (text_faces s) (text_face s)) (text_count s)
    pub fit : Clear (unfit_faces (text_count s) (text_faces s) (text_face s)) (text_count s)
    pub near : Clear (text_beyond s) (text_count s)

  passed : read_off_verdict s t ps ≡ (Ok tt) → Passed
  unfolding faces_verdict read_off_verdict
  passed h =
      let z = then_accepted (text_verdict s) _ h in
      let a = if_accepted (bad_count (text_count s)) _ _ z.1 in
      let b = if_accepted (short_tables (text_count s) t ps) _ _ a.1 in
      let c = at_accepted (twisted (text_count s) (text_faces s) (text_face s)) (text_count s) _ _ b.1 in
      let d = at_accepted (unfit_faces (text_count s) (text_faces s) (text_face s)) (text_count s) _ _ c.1 in
      let e = at_accepted (text_beyond s) (text_count s) _ _ d.1 in
      record { text = z.0; counted = a.0; long = b.0; closed = c.0; fit = d.0; near = e.0 }

  module _ (h : read_off_verdict s t ps ≡ (Ok tt)) where
    taken : Taken (text_count s) (text_faces s) (text_face s)
    taken = let p = passed h in record { fine = good_faces s p.text; closes = p.closed.below; fits = p.fit.below }

    mesh_sound : Sound (mesh (text_count s) (face_ring (text_count s) (text_faces s) (text_face s)))
    unfolding face_mesh
    mesh_sound = taken_sound (text_count s) (text_faces s) (text_face s) taken

    short_ring : (v : ℕ) → v < text_count s → length (text_ring s v) ≤ 32
    unfolding text_ring
    short_ring v l = rw (lt-ltb v (text_count s) l) at (mesh_sound.proper v l).short

    new_valences : read_off_valences s t ps ≡ put t.valences 0 (valence_rows (text_ring s) (text_count s))
    unfolding read_off_valences after
    new_valences = rw h

    new_rings : read_off_rings s t ps ≡ put t.rings 0 (ring_rows (text_ring s) (text_count s))
    unfolding read_off_rings after
    new_rings = rw h

    new_positions : read_off_positions s t ps ≡ put ps 0 (point_rows (text_point s) (text_count s))
    unfolding read_off_positions after
    new_positions = rw h

    -- the ring of v in the tables
    pub ring_read_lem : (v : ℕ) → v < text_count s
        → ring_of (lent (read_off_valences s t ps) (read_off_rings s t ps)) v ≡ face_ring (text_count s) (text_faces s) (text_face s) v
    unfolding text_ring
    ring_read_lem v l = rw (new_valences, new_rings) (in_ring (text_count s) v l (text_ring s) short_ring t)

    pub point_read : (v : ℕ) → v < text_count s → (axis : ℕ) → axis < 3 → coordinate_at (read_off_positions s t ps) axis v ≡ text_point s axis v
    point_read v l axis a = rw new_positions (in_point (text_count s) v l (text_point s) ps axis a)

    -- so the mesh in the tables is the mesh of the faces
    pub mesh_read : rows (text_count s) (lent (read_off_valences s t ps) (read_off_rings s t ps)) ≡ face_mesh (text_count s) (text_faces s) (text_face s)
    unfolding rows face_mesh
    mesh_read =
        ap (λ f. record { count = text_count s; ring = f })
        (fun_ext (λ v. ⊎_elim (λ l. rw l.0 (ring_read_lem v l.1)) (λ l. rw l.0) (lt_split v (text_count s))))

    near : (v : ℕ) → v < text_count s → (axis : ℕ) → axis < 3 → InRange (text_point s axis v)
    unfolding text_beyond beyond
    near v l axis a = pick axis a
      where
        e : text_beyond s v ≡ false
            → (ltb most_units (nat_abs (text_point s 0 v)) ≡ false)
            × ((ltb most_units (nat_abs (text_point s 1 v)) ≡ false) × (ltb most_units (nat_abs (text_point s 2 v)) ≡ false))
        e q =
            let p = or_false (beyond (text_point s 0 v)) (beyond (text_point s 1 v) || beyond (text_point s 2 v)) q in
            let r = or_false (beyond (text_point s 1 v)) (beyond (text_point s 2 v)) p.1 in
            (p.0, (r.0, r.1))

        pick : (axis : ℕ) → axis < 3 → nat_abs (text_point s axis v) ≤ most_units
        pick zero a = ltb-false _ _ (e ((passed h).near.below v l)).0
        pick (suc zero) a = ltb-false _ _ (e ((passed h).near.below v l)).1.0
        pick (suc (suc zero)) a = ltb-false _ _ (e ((passed h).near.below v l)).1.1
        pick (suc (suc (suc k))) a = absurd (omega arith)

    lengths : Room (text_count s) (lent (read_off_valences s t ps) (read_off_rings s t ps)) × (text_count s * 3 ≤ length (read_off_positions s t ps))
    unfolding valence_rows ring_rows point_rows
    lengths =
        let z = long_tables (text_count s) t ps (passed h).long in
        let n : ℕ = text_count s in
        let f : ℕ → List ℕ = text_ring s in
        let lv = length_gather (λ v. length (f v) ∷ []) 1 (λ k. refl) n in
        let lr = length_rows_below (λ v. padded (f v)) 32 n (λ v l. length_padded (f v) (short_ring v l)) in
        let lp = length_gather (λ v. text_point s 0 v ∷ text_point s 1 v ∷ text_point s 2 v ∷ []) 3 (λ k. refl) n in
        let ev = length_put t.valences 0 (gather (λ v. length (f v) ∷ []) n) (omega (arith, z.0.valences, lv)) in
        let er = length_put t.rings 0 (gather (λ v. padded (f v)) n) (omega (arith, z.0.rings, lr)) in
        let ep = length_put ps 0 (gather (λ v. text_point s 0 v ∷ text_point s 1 v ∷ text_point s 2 v ∷ []) n) (omega (arith, z.1, lp)) in
        let room : Room n (lent (read_off_valences s t ps) (read_off_rings s t ps)) =
        record { valences = omega (arith, ap length new_valences, ev, z.0.valences); rings = omega (arith, ap length new_rings, er, z.0.rings) } in
        (room, omega (arith, ap length new_positions, ep, z.1))

    pub reading_is_checked : check_verdict (text_count s) (lent (read_off_valences s t ps) (read_off_rings s t ps)) (read_off_positions s t ps) ≡ (Ok tt)
    reading_is_checked =
        let p = passed h in
        accepted_all (text_count s) (lent (read_off_valences s t ps) (read_off_rings s t ps)) (read_off_positions s t ps) (record {
          low = (good_count (text_count s) p.counted).0;
          high = (good_count (text_count s) p.counted).1;
          room = lengths.0;
          points = lengths.1;
          most = λ v l. rw (new_valences, in_valence (text_count s) v l (text_ring s) short_ring t) (short_ring v l);
          sound = rw mesh_read (taken_sound (text_count s) (text_faces s) (text_face s) taken);
          near = λ v l axis a. rw (point_read v l axis a) (near v l axis a);
        })

    -- each ring in the tables begins with its smallest neighbour
    pub rings_begin_with_smallest : (v : ℕ) → v < text_count s → let ring = ring_of (lent (read_off_valences s t ps) (read_off_rings s t ps)) v in
        (x : ℕ) → x ∈ ring → get_or ring 0 0 ≤ x
    rings_begin_with_smallest v l x m =
        let e = ring_read_lem v l in
        subst (λ r. get_or r 0 0 ≤ x) (sym e)
        (begins_with_smallest (text_count s) (text_faces s) (text_face s) taken v l x (subst (λ r. x ∈ r) e m))
