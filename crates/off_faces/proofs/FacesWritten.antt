-- Faces written one after the other: what the loops over a ring's entries and over the vertices keep. Assumes nothing.
use Prim.Native.Nat.{ℕ, suc, ◌+◌, ◌≤◌, ◌<◌}
use mathlib.Core.Path.{◌≡◌, sym, ap, ◌∙◌, subst}
use mathlib.Core.Bool.{cond}
use mathlib.Core.List.{List, [], ◌∷◌, ◌++◌, append-nil}
use native.Mathlib.Numerals.{add-one}
use native.Mathlib.Omega.{arith}
use lib.Dec.{ltb}
use lib.ListN.{length, get_or, length-append}
use borrow.Author.Tests.{lt-ltb, le-ltb}
use Rattle.mesh.specs.Ring.{place_before}
use Rattle.mesh.specs.Numbering.{below}
use Rattle.mesh.specs.Mesh.{Sound, over}
use Rattle.mesh.proofs.Lists.{below_suc}
use Rattle.mesh.proofs.Edges.{over_in}
use Rattle.mesh.proofs.Overs.{over_none, over_next, over_left, over_rest}
use Rattle.mesh.proofs.Rings.{get_or_in}
use Rattle.rings.specs.Table.{Lent, ring_of, rows}
use Rattle.rings.proofs.Rows.{rows_ring}
use Rattle.off_rings.specs.Faces.{Face}
use Rattle.off_rings.specs.Listed.{faces_from, faces_below, listed}
use Rattle.off_text.specs.WriteOff.{face_line, face_lines}
use Rattle.off_lines.specs.Written.{Written}
use Rattle.off_lines.proofs.Writing.{written_length, written_none, written_then, written_is}
use Rattle.off_faces.specs.Facing.{faces_of, Ascending}
use Rattle.off_faces.proofs.FacesInOrder.{lines_append, faces_none, faces_between, faces_behind, faces_entry, faces_longer, faces_by_ring, vertices_longer}

one_line : (f : Face) → face_lines (f ∷ []) ≡ face_line f
unfolding face_lines
one_line f = append-nil (face_line f)

-- ---- one vertex

-- the entries of the ring up to b that are over a are passed, k of them, and their faces are written
pub record Faced (old : List ℕ) (at : ℕ) (ring : List ℕ) (a b k : ℕ) (new : List ℕ) (end : ℕ) : Type 0 where
  pub low : a ≤ b
  pub passed : k ≡ below (suc b) (over a ring)
  pub lines : Written old at (face_lines (faces_of ring a (suc b))) new end

pub faced_none : {text : List ℕ} {at : ℕ} (ring : List ℕ) (a : ℕ) → at ≤ length text → Faced text at ring a a 0 text at
unfolding face_lines
faced_none ring a h = record {
  low = omega arith;
  passed = sym (over_none a ring);
  lines = written_is (sym (ap face_lines (faces_none ring a))) (written_none h);
}

module _ {old : List ℕ} {at : ℕ} {ring : List ℕ} {a b k : ℕ} {new : List ℕ} {end : ℕ} (w : Faced old at ring a b k new end) where
  pub faced_left : k < length (over a ring) → 0 < length (over b ring)
  faced_left h = over_left a b ring w.low (omega (arith, w.passed))

  pub faced_end : length (over a ring) ≤ k → {n : ℕ} → Ascending ring n → Written old at (face_lines (faces_of ring a n)) new end
  faced_end h {n} s =
      written_is (ap face_lines (sym (faces_behind ring a n b s.known (omega (arith, w.passed, over_rest a b ring w.low))))) w.lines

  -- the least entry over b stands at place i, and c before it
  module _ {n : ℕ} (s : Ascending ring n) (i : ℕ) (h : i < length ring) (up : b < get_or ring i 0) (z : below (get_or ring i 0) (over b ring) ≡ 0)
      (c : ℕ) (e : c ≡ get_or ring (place_before (length ring) i) 0) where
    face : Face
    face = record { a = a; b = get_or ring i 0; c = c }

    over_a : a < get_or ring i 0
    over_a = omega (arith, w.low)

    once_more : k + 1 ≡ below (suc (get_or ring i 0)) (over a ring)
    once_more =
        omega (
          arith,
          w.passed,
          over_next a b (get_or ring i 0) ring w.low up z,
          below_suc (get_or ring i 0) (over a ring),
          over_in (get_or ring i 0) a ring over_a,
          s.distinct (get_or ring i 0),
          get_or_in ring i 0 h,
        )

    faces_now : faces_of ring a (suc (get_or ring i 0)) ≡ faces_of ring a (suc b) ++ cond (ltb a c) (face ∷ []) []
    unfolding face
    faces_now =
        faces_entry ring a s.distinct i h over_a c e
        ∙ ap (λ l. l ++ cond (ltb a c) (record { a = a; b = get_or ring i 0; c = c } ∷ []) []) (faces_between ring a b (get_or ring i 0) up z)

    lines_now : a < c → face_lines (faces_of ring a (suc b)) ++ face_line face ≡ face_lines (faces_of ring a (suc (get_or ring i 0)))
    lines_now l =
        ap (λ x. face_lines (faces_of ring a (suc b)) ++ x) (sym (one_line face))
        ∙ sym (lines_append (faces_of ring a (suc b)) (face ∷ []))
        ∙ sym (ap face_lines (faces_now ∙ ap (λ y. faces_of ring a (suc b) ++ cond y (face ∷ []) []) (lt-ltb a c l)))

    pub faced_fits : a < c → at + length (face_lines (faces_of ring a n)) ≤ length old
        → end + length (face_line (record { a = a; b = get_or ring i 0; c = c })) ≤ length new
    unfolding face
    faced_fits l room =
        omega (
          arith,
          room,
          w.lines.ends,
          written_length w.lines,
          ap length (lines_now l),
          length-append (face_lines (faces_of ring a (suc b))) (face_line face),
          faces_longer ring a (suc (get_or ring i 0)) n (s.known (get_or ring i 0) (get_or_in ring i 0 h)),
        )

    pub faced_more : a < c → {new' : List ℕ} {end' : ℕ} → Written new end (face_line (record { a = a; b = get_or ring i 0; c = c })) new' end'
        → Faced old at ring a (get_or ring i 0) (k + 1) new' end'
    unfolding face
    faced_more l v = record {
      low = omega (arith, over_a);
      passed = once_more;
      lines = written_is (lines_now l) (written_then w.lines v);
    }

    pub faced_skip : c ≤ a → Faced old at ring a (get_or ring i 0) (k + 1) new end
    faced_skip l = record {
      low = omega (arith, over_a);
      passed = once_more;
      lines =
          let y = ap (λ y. faces_of ring a (suc b) ++ cond y (face ∷ []) []) (le-ltb a c l) in
          written_is (ap face_lines (sym (faces_now ∙ y ∙ append-nil (faces_of ring a (suc b))))) w.lines;
    }

-- ---- all vertices, the faces of those below a being written

pub reached_none : (n : ℕ) (t : Lent) {old : List ℕ} {at : ℕ} → at ≤ length old → Written old at (face_lines (faces_below (rows n t) 0)) old at
unfolding faces_below face_lines
reached_none n t h = written_none h

pub row_ascending : (n : ℕ) (t : Lent) → Sound (rows n t) → {a : ℕ} → a < n → (ring : List ℕ) → ring ≡ ring_of t a → Ascending ring n
unfolding rows
row_ascending n t s {a} h ring e =
    subst (λ l. Ascending l n) (rows_ring n t a h ∙ sym e) (record { known = (s.proper a h).known; distinct = (s.proper a h).distinct })

module _ (n : ℕ) (t : Lent) {old : List ℕ} {at a : ℕ} {new : List ℕ} {end : ℕ} (w : Written old at (face_lines (faces_below (rows n t) a)) new end)
    (h : a < n) (ring : List ℕ) (e : ring ≡ ring_of t a) where
  lines_here : face_lines (faces_below (rows n t) a) ++ face_lines (faces_of ring a n) ≡ face_lines (faces_below (rows n t) (suc a))
  unfolding faces_below rows
  lines_here =
      ap (λ l. face_lines (faces_below (rows n t) a) ++ face_lines l)
      (ap (λ l. faces_of l a n) (e ∙ sym (rows_ring n t a h)) ∙ sym (faces_by_ring (rows n t) a n))
      ∙ sym (lines_append (faces_below (rows n t) a) (faces_from (rows n t) a n))

  pub reached_fits : at + length (face_lines (listed (rows n t))) ≤ length old → end + length (face_lines (faces_of ring a n)) ≤ length new
  unfolding listed rows
  reached_fits room =
      omega (
        arith,
        room,
        w.ends,
        written_length w,
        ap length lines_here,
        length-append (face_lines (faces_below (rows n t) a)) (face_lines (faces_of ring a n)),
        vertices_longer (rows n t) (suc a) n h,
      )

  pub reached_more : {new' : List ℕ} {end' : ℕ} → Written new end (face_lines (faces_of ring a n)) new' end'
      → Written old at (face_lines (faces_below (rows n t) (a + 1))) new' end'
  reached_more v = rw (add-one a) (written_is lines_here (written_then w v))

pub reached_end : (n : ℕ) (t : Lent) {old : List ℕ} {at a : ℕ} {new : List ℕ} {end : ℕ} → Written old at (face_lines (faces_below (rows n t) a)) new end
    → a ≡ n → Written old at (face_lines (listed (rows n t))) new end
unfolding listed rows
reached_end n t {old} {at} {a} {new} {end} w e = subst (λ k. Written old at (face_lines (faces_below (rows n t) k)) new end) e w
