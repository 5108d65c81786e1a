-- To be believed.
-- Reading a face list: 20, then 2 and 1, then 21, 4 and 7, each over all vertices before the next, and V where it is accepted;
-- the tables get the rings of the faces and the points.
-- Assumes nothing.
use Rattle.std.specs.Prelude.{Bool, ◌||◌, List, ℕ, ℤ, Ok}
use Rattle.units.specs.Coordinate.{beyond}
use Rattle.rings.specs.Table.{Lent, put, valence_rows, ring_rows, point_rows}
use Rattle.rings.specs.Verdict.{refuse_if, refuse_at, and_then, after, with_amount}
use Rattle.rings.specs.Check.{bad_count, short_tables}
use Rattle.rings.specs.declared.Refusal.TheVariants.{TableTooShort, VertexCount, OpenRing, RingImproper, ControlCoordinate}
use Rattle.off_rings.specs.Faces.{twisted, unfit_faces, face_ring}
use Rattle.off_text.specs.Layout.{text_count, text_faces, text_face, text_point, text_verdict}
use Rattle.rings.specs.Refusal.{Amount, Verdict}

module _ (s : List ℕ) where
  -- the ring of v
  unfoldable pub text_ring : ℕ → List ℕ
  text_ring = face_ring (text_count s) (text_faces s) (text_face s)

  -- 7: a coordinate of v is beyond the range
  unfoldable pub text_beyond : ℕ → Bool
  text_beyond v = beyond (text_point s 0 v) || (beyond (text_point s 1 v) || beyond (text_point s 2 v))

  -- 21, 4, 7
  unfoldable pub faces_verdict : Verdict
  faces_verdict =
      refuse_at (twisted (text_count s) (text_faces s) (text_face s)) (text_count s) OpenRing
      (refuse_at (unfit_faces (text_count s) (text_faces s) (text_face s)) (text_count s) RingImproper
      (refuse_at text_beyond (text_count s) ControlCoordinate
      (Ok tt)))

module _ (s : List ℕ) (t : Lent) (ps : List ℤ) where
  -- 20, 2, 1, then those of the faces and the points
  unfoldable pub read_off_verdict : Verdict
  read_off_verdict =
      and_then (text_verdict s)
      (refuse_if (bad_count (text_count s)) VertexCount
      (refuse_if (short_tables (text_count s) t ps) TableTooShort
      (faces_verdict s)))

  -- V
  unfoldable pub read_off_answer : Amount
  read_off_answer = with_amount read_off_verdict (text_count s)

  -- the valences after the call
  unfoldable pub read_off_valences : List ℕ
  read_off_valences = after read_off_verdict (put t.valences 0 (valence_rows (text_ring s) (text_count s))) t.valences

  -- the rings after the call
  unfoldable pub read_off_rings : List ℕ
  read_off_rings = after read_off_verdict (put t.rings 0 (ring_rows (text_ring s) (text_count s))) t.rings

  -- the positions after the call
  unfoldable pub read_off_positions : List ℤ
  read_off_positions = after read_off_verdict (put ps 0 (point_rows (text_point s) (text_count s))) ps
