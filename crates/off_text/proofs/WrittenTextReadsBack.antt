-- Reading back what was written (order 4): the text of a sound mesh is in the subset, and gives V, the points and the faces that were written,
-- and so the same cyclic rings.
-- Assumes nothing.
use mathlib.Core.Path.{◌≡◌, refl, sym, ap, ap₂, ◌∙◌, subst}
use mathlib.Core.Bool.{true, false, not}
use mathlib.Core.List.{List, ◌++◌}
use Prim.Native.Nat.{ℕ, zero, suc, ◌+◌, ◌<◌}
use native.Mathlib.Omega.{arith}
use lib.IntN.{ℤ}
use lib.ListN.{length, get_or, length-append}
use borrow.Author.Tests.{le-ltb}
use Rattle.mesh.specs.Ring.{times, ◌∈◌, next}
use Rattle.mesh.specs.Mesh.{Mesh, Sound, edges, faces}
use Rattle.mesh.proofs.Faces.{three_faces}
use Rattle.mesh.proofs.First.{none_some}
use Rattle.rings.specs.Table.{gather}
use Rattle.rings.specs.Verdict.{refuse_if, refuse_at}
use Rattle.off_rings.specs.Faces.{Face, bad_face, face_ring}
use Rattle.off_rings.specs.Listed.{listed}
use Rattle.off_rings.proofs.ListedPairs.{listed_count}
use Rattle.off_rings.proofs.AcceptedFacesAreSound.{Taken}
use Rattle.off_rings.proofs.WrittenFacesReadBack.{written_taken, times_back, next_back}
use Rattle.off_rings.proofs.Pairs.{fine_of}
use Rattle.off_text.specs.Layout.{is_word, text_count, text_faces, is_counts, is_vertex, vertex_at, text_point, is_face, face_line_at, text_face, text_verdict}
use Rattle.off_text.specs.WriteOff.{word, counts_line, vertex_line, face_line, face_lines, text_of}
use Rattle.off_text.proofs.Standing.{Stands, stands_whole, stands_front, stands_back}
use Rattle.off_text.proofs.NumbersRead.{Held}
use Rattle.off_text.proofs.LinesRead.{word_read, count_is, faces_is, counts_read, vertices_begin, VertexRead, vertex_read, FaceRead, face_read}
use Rattle.off_text.proofs.LinesRead.{lines_place, lines_stand, lines_gather}
use Rattle.std.specs.Prelude.{Ok}

-- a sound mesh with points, all of whose numbers have 32 bits
pub record Writable (M : Mesh) (point : ℕ → ℕ → ℤ) : Type 0 where
  pub sound : Sound M
  pub vertices : M.count < 4294967296
  pub few_faces : faces M < 4294967296
  pub few_edges : edges M < 4294967296
  pub held : (v : ℕ) → v < M.count → (axis : ℕ) → axis < 3 → Held (point axis v)

-- no face
abbrev none : Face
none = record { a = 0; b = 0; c = 0 }

module _ (M : Mesh) (point : ℕ → ℕ → ℤ) (W : Writable M point) where
  -- the text
  abbrev pub s : List ℕ
  s = text_of M point

  counts : List ℕ
  counts = counts_line M.count (faces M) (edges M)

  vertex : ℕ → List ℕ
  vertex v = vertex_line (λ axis. point axis v)

  -- ---- where the parts stand

  all : Stands s 0 (word ++ (counts ++ (gather vertex M.count ++ face_lines (listed M))))
  unfolding counts vertex text_of
  all = stands_whole s

  counts_stand : Stands s 4 (counts ++ (gather vertex M.count ++ face_lines (listed M)))
  counts_stand = stands_back s 0 word (counts ++ (gather vertex M.count ++ face_lines (listed M))) all

  points_stand : Stands s (4 + length counts) (gather vertex M.count ++ face_lines (listed M))
  points_stand = stands_back s 4 counts (gather vertex M.count ++ face_lines (listed M)) counts_stand

  line_two : Stands s 4 (counts_line M.count (faces M) (edges M))
  unfolding counts
  line_two = stands_front s 4 counts (gather vertex M.count ++ face_lines (listed M)) counts_stand

  -- ---- V, F

  pub V_back : text_count s ≡ M.count
  V_back = count_is s M.count (faces M) (edges M) W.vertices W.few_faces W.few_edges line_two

  pub F_back : text_faces s ≡ faces M
  F_back = faces_is s M.count (faces M) (edges M) W.vertices W.few_faces W.few_edges line_two

  -- ---- vertices

  vertex_at_lem : (v : ℕ) → v < M.count → (at : ℕ) → Stands s at (vertex v) → VertexRead s at (λ axis. point axis v)
  unfolding vertex
  vertex_at_lem v h at k = vertex_read s at (λ axis. point axis v) (W.held v h 0 (omega arith)) (W.held v h 1 (omega arith)) (W.held v h 2 (omega arith)) k

  points_front : Stands s (4 + length counts) (gather vertex M.count)
  points_front = stands_front s (4 + length counts) (gather vertex M.count) (face_lines (listed M)) points_stand

  begin : vertex_at s 0 ≡ 4 + length counts
  unfolding counts
  begin = vertices_begin s M.count (faces M) (edges M) W.vertices W.few_faces W.few_edges line_two

  next_vertex : (v : ℕ) → v < M.count → Stands s (vertex_at s v) (vertex v) → vertex_at s (suc v) ≡ vertex_at s v + length (vertex v)
  unfolding vertex_at vertex
  next_vertex v h k = (vertex_at_lem v h (vertex_at s v) k).behind

  here : (v : ℕ) → v < M.count → VertexRead s (vertex_at s v) (λ axis. point axis v)
  here v h = vertex_at_lem v h (vertex_at s v) (lines_stand s (4 + length counts) vertex M.count (vertex_at s) points_front begin next_vertex v h)

  pub points_back : (v : ℕ) → v < M.count → (axis : ℕ) → axis < 3 → text_point s axis v ≡ point axis v
  unfolding text_point
  points_back v h zero l = (here v h).x_is
  points_back v h (suc zero) l = (here v h).y_is
  points_back v h (suc (suc zero)) l = (here v h).z_is
  points_back v h (suc (suc (suc axis))) l = absurd (omega arith)

  -- ---- faces

  line : ℕ → List ℕ
  line i = face_line (get_or (listed M) i none)

  base : ℕ
  base = 4 + length counts + length (gather vertex M.count)

  faces_stand : Stands s base (gather line (length (listed M)))
  unfolding base line
  faces_stand =
      subst (Stands s base) (lines_gather (listed M) none)
      (stands_back s (4 + length counts) (gather vertex M.count) (face_lines (listed M)) points_stand)

  -- the faces as they are listed are good
  listed_taken : Taken M.count (length (listed M)) (λ i. get_or (listed M) i none)
  listed_taken = written_taken M W.sound none (length (listed M)) (λ i. get_or (listed M) i none) refl (λ i h. refl)

  face_at_lem : (i : ℕ) → i < length (listed M) → (at : ℕ) → Stands s at (line i) → FaceRead s at (get_or (listed M) i none)
  unfolding line
  face_at_lem i h at k =
      let g = fine_of M.count (get_or (listed M) i none) (listed_taken.fine i h) in
      let v = W.vertices in
      face_read s at (get_or (listed M) i none) (omega (arith, g.a<)) (omega (arith, g.b<)) (omega (arith, g.c<)) k

  first_face : face_line_at s 0 ≡ base
  unfolding face_line_at base
  first_face = ap (vertex_at s) V_back ∙ lines_place s (4 + length counts) vertex M.count (vertex_at s) points_front begin next_vertex M.count (omega arith)

  next_face : (i : ℕ) → i < length (listed M) → Stands s (face_line_at s i) (line i) → face_line_at s (suc i) ≡ face_line_at s i + length (line i)
  unfolding face_line_at line
  next_face i h k = (face_at_lem i h (face_line_at s i) k).behind

  face_here : (i : ℕ) → i < length (listed M) → FaceRead s (face_line_at s i) (get_or (listed M) i none)
  face_here i h = face_at_lem i h (face_line_at s i) (lines_stand s base line (length (listed M)) (face_line_at s) faces_stand first_face next_face i h)

  pub faces_back : (i : ℕ) → i < faces M → text_face s i ≡ get_or (listed M) i none
  unfolding text_face
  faces_back i h = (face_here i (omega (arith, listed_count M W.sound))).corners

  -- ---- nothing more

  whole_length : length s ≡ base + length (gather line (length (listed M)))
  unfolding text_of counts vertex base line
  whole_length =
      let g : List ℕ = gather vertex M.count in
      let l : List ℕ = face_lines (listed M) in
      omega (arith, length-append word (counts ++ (g ++ l)), length-append counts (g ++ l), length-append g l, ap length (lines_gather (listed M) none))

  last_face : face_line_at s (faces M) ≡ length s
  last_face =
      ap (face_line_at s) (sym (listed_count M W.sound))
      ∙ lines_place s base line (length (listed M)) (face_line_at s) faces_stand first_face next_face (length (listed M)) (omega arith)
      ∙ sym whole_length

  -- ---- the text is in the subset

  pub text_accepted : text_verdict s ≡ (Ok tt)
  unfolding text_verdict refuse_if refuse_at
  text_accepted =
      let w : is_word s ≡ true = word_read s (stands_front s 0 word (counts ++ (gather vertex M.count ++ face_lines (listed M))) all) in
      let c : is_counts s ≡ true =
      counts_read s M.count (faces M) (edges M) W.vertices W.few_faces W.few_edges line_two (sym (three_faces M W.sound)) in
      rw (
        w,
        c,
        none_some (λ v. not (is_vertex s (vertex_at s v))) (text_count s) (λ v h. ap not (here v (subst (λ k. v < k) V_back h)).is),
        none_some (λ i. not (is_face s (face_line_at s i))) (text_faces s) (λ i h. ap not (good i (subst (λ k. i < k) F_back h))),
        le-ltb (face_line_at s (text_faces s)) (length s) (omega (arith, last_face, ap (face_line_at s) F_back)),
      )
    where
      good : (i : ℕ) → i < faces M → is_face s (face_line_at s i) ≡ true
      good i h =
          let l : i < length (listed M) = omega (arith, listed_count M W.sound) in
          (face_here i l).is (subst (λ n. bad_face n (get_or (listed M) i none) ≡ false) (sym V_back) (listed_taken.fine i l))

  -- ---- and its faces are those that were written

  pub faces_taken : Taken (text_count s) (text_faces s) (text_face s)
  faces_taken =
      subst (λ n. Taken n (text_faces s) (text_face s)) (sym V_back)
      (subst (λ m. Taken M.count m (text_face s)) (sym F_back)
      (written_taken M W.sound none (faces M) (text_face s) (sym (listed_count M W.sound)) faces_back))

  -- the same entries, and the same next of each: the same cyclic ring
  pub entries_back : (v : ℕ) → v < M.count → (x : ℕ) → times x (face_ring (text_count s) (text_faces s) (text_face s) v) ≡ times x (M.ring v)
  entries_back v h x =
      ap₂ (λ n m. times x (face_ring n m (text_face s) v)) V_back F_back
      ∙ times_back M W.sound none (faces M) (text_face s) (sym (listed_count M W.sound)) faces_back v h x

  pub rings_back : (v : ℕ) → v < M.count → (x : ℕ) → x ∈ M.ring v → next (face_ring (text_count s) (text_faces s) (text_face s) v) x ≡ next (M.ring v) x
  rings_back v h x k =
      ap₂ (λ n m. next (face_ring n m (text_face s) v) x) V_back F_back
      ∙ next_back M W.sound none (faces M) (text_face s) (sym (listed_count M W.sound)) faces_back v h x k
