-- From the rows that were gathered to the faces of a vertex, whatever the rows' width. Assumes nothing.
use mathlib.Core.Path.{◌≡◌, ◌∙◌, subst}
use mathlib.Core.List.{List}
use Prim.Native.Nat.{ℕ, ◌+◌, ◌*◌, ◌≤◌, ◌<◌}
use native.Mathlib.Omega.{arith}
use lib.ListN.{length, get_or, take, drop, length-take, length-drop}
use lib.Seq.{ext_get_or, get_or-take, get_or-drop}
use Rattle.off_rings.specs.Faces.{faces_at}
use Rattle.off_rings.specs.Fans.{befores, behinds}
use Rattle.off_rings.proofs.FansOfFaces.{faces_length}
use Rattle.off_rings.proofs.Pairs.{Fine}
use Rattle.off_text.specs.Layout.{text_count, text_faces, face_line_at, text_face}
use Rattle.off_fans.specs.Rows.{Kept, Room, Cleared}
use Rattle.off_fans.proofs.Noting.{row_room}
use Rattle.off_blocks.specs.Blocks.{Block, Tables}
use Rattle.off_gather.specs.Gathering.{FaceLines, Gathered, SameRoom}
use Rattle.off_gather.proofs.Gathering.{standing}

-- rows without entries have gathered no face
pub gathered_none : {s : List ℕ} {first rows width : ℕ} {counts counts' froms tos : List ℕ} → Cleared rows counts counts'
    → Gathered s first rows width 0 counts' froms tos
unfolding befores behinds
gathered_none k = record {
  fans = record {
    from = λ j l. record { count = k.none j l; entry = λ i a b. absurd (omega arith) };
    to = λ j l. record { count = k.none j l; entry = λ i a b. absurd (omega arith) };
  };
}

-- a row's places are within the tables
module _ {rows width j : ℕ} {counts froms tos : List ℕ} (r : Room rows width counts froms tos) (l : j < rows) where
  pub row_froms : j * width + width ≤ length froms
  row_froms = row_room rows width j (length froms) l r.froms_long

  pub row_tos : j * width + width ≤ length tos
  row_tos = row_room rows width j (length tos) l r.tos_long

-- a row that is not too long for its width is its list
row_list : (width j n : ℕ) (counts table l : List ℕ) → Kept width j counts table l → n ≡ length l → n ≤ width → j * width + width ≤ length table
    → take n (drop (j * width) table) ≡ l
row_list width j n counts table l k e h r =
    ext_get_or 0 _ _ same_length (λ i g.
    let g' : i < n = omega (arith, same_length) in
    get_or-take n (drop (j * width) table) i 0 g' ∙ get_or-drop (j * width) table i 0 ∙ k.entry i (omega arith) (omega arith))
  where
    same_length : length (take n (drop (j * width) table)) ≡ length l
    same_length = simp (length-take, length-drop) (omega arith)

module _ {s : List ℕ} {first rows width j : ℕ} {counts froms tos : List ℕ} (g : Gathered s first rows width (text_faces s) counts froms tos) (l : j < rows) where
  -- the row of vertex first + j has as many entries as the vertex has faces
  pub row_count : get_or counts j 0 ≡ faces_at (text_count s) (text_faces s) (text_face s) (first + j)
  row_count = (g.fans.from j l).count ∙ faces_length (text_count s) (text_faces s) (text_face s) (first + j)

  module _ (r : Room rows width counts froms tos) (h : get_or counts j 0 ≤ width) where
    -- what comes before the vertex in its faces, and what comes behind it
    pub from_row : take (get_or counts j 0) (drop (j * width) froms) ≡ befores (text_face s) (first + j) (text_faces s)
    from_row = row_list width j (get_or counts j 0) counts froms _ (g.fans.from j l) (g.fans.from j l).count h (row_froms r l)

    pub to_row : take (get_or counts j 0) (drop (j * width) tos) ≡ behinds (text_face s) (first + j) (text_faces s)
    to_row = row_list width j (get_or counts j 0) counts tos _ (g.fans.to j l) (g.fans.to j l).count h (row_tos r l)

-- ---- all faces of a text

-- the faces of a text whose lines are as they should be
pub fine_faces : {s : List ℕ} {faces from : ℕ} → FaceLines s faces from → (i : ℕ) → i < text_faces s → Fine (text_count s) (text_face s i)
unfolding text_face
fine_faces {s} k i h = (standing s (face_line_at s i) (k.good i (omega (arith, k.all)))).fine

-- all of them were gathered
pub gathered_all : {s : List ℕ} {faces from first rows width : ℕ} {counts froms tos : List ℕ} → FaceLines s faces from
    → Gathered s first rows width faces counts froms tos → Gathered s first rows width (text_faces s) counts froms tos
gathered_all {s} {faces} {from} {first} {rows} {width} {counts} {froms} {tos} k g =
    subst (λ m. Gathered s first rows width m counts froms tos) k.all g

-- ---- blocks

-- the tables have the rows of any block
pub tables_room : {width left rows : ℕ} {counts froms tos : List ℕ} → Block width left rows → Tables counts froms tos → Room rows width counts froms tos
tables_room b t = record {
  counts_long = omega (arith, b.few, t.counts_long);
  froms_long = omega (arith, b.fit, t.froms_long);
  tos_long = omega (arith, b.fit, t.tos_long);
}

pub tables_same : {c f t c' f' t' : List ℕ} → SameRoom c f t c' f' t' → Tables c f t → Tables c' f' t'
tables_same k t = record {
  counts_long = omega (arith, k.counts_same, t.counts_long);
  froms_long = omega (arith, k.froms_same, t.froms_long);
  tos_long = omega (arith, k.tos_same, t.tos_long);
}
