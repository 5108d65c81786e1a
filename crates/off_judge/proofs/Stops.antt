-- What a row that was gathered shows of its vertex: whether it stops a block, and whether the vertex closes. Assumes nothing.
use mathlib.Core.Path.{◌≡◌, sym, ap, ◌∙◌, subst}
use mathlib.Core.Bool.{Bool, true, not, ◌||◌}
use mathlib.Core.Logic.{⊎_elim}
use mathlib.Core.List.{List}
use Prim.Native.Nat.{ℕ, ◌+◌, ◌*◌, ◌≤◌, ◌<◌}
use native.Mathlib.Omega.{arith}
use lib.Dec.{ltb}
use lib.ListN.{get_or, take, drop}
use borrow.Author.Tests.{lt-ltb, le-ltb}
use Rattle.mesh.specs.Search.{first as least}
use Rattle.mesh.proofs.Lists.{lt_split}
use Rattle.mesh.proofs.First.{first_at, by_cases}
use Rattle.off_rings.specs.Faces.{faces_at, closed}
use Rattle.off_rings.specs.Fans.{fan_closes}
use Rattle.off_rings.proofs.FansOfFaces.{closed_fan}
use Rattle.off_rings.proofs.Turns.{closed_few}
use Rattle.off_text.specs.Layout.{text_count, text_faces, text_face}
use Rattle.off_fans.specs.Rows.{Room}
use Rattle.off_gather.specs.Gathering.{FaceLines, Gathered}
use Rattle.off_gather.proofs.Rows.{row_count, from_row, to_row, fine_faces}
use Rattle.off_blocks.specs.Blocks.{places}
use Rattle.off_judge.specs.Judging.{open_at, stops}

-- a vertex with more faces than a text may have vertices does not close
open_over : {s : List ℕ} {faces from : ℕ} (v : ℕ) → FaceLines s faces from → places < faces_at (text_count s) (text_faces s) (text_face s) v → open_at s v ≡ true
open_over {s} v k h =
    ap not
    (by_cases (closed (text_count s) (text_faces s) (text_face s) v) (λ c.
    omega (arith, k.few, closed_few (text_count s) (text_faces s) (text_face s) (fine_faces k) v c)))

-- whether row j stops a block, as its entries tell
abbrev pub told : ℕ → ℕ → List ℕ → List ℕ → List ℕ → ℕ → Bool
told count width counts froms tos j =
    ltb width (get_or counts j 0)
    || not (fan_closes count (take (get_or counts j 0) (drop (j * width) froms)) (take (get_or counts j 0) (drop (j * width) tos)))

module _ {s : List ℕ} {first rows width j : ℕ} {counts froms tos : List ℕ} (g : Gathered s first rows width (text_faces s) counts froms tos) (l : j < rows) where
  -- a row that is wide enough stops a block where its vertex does not close
  stops_open : get_or counts j 0 ≤ width → stops s width first j ≡ open_at s (first + j)
  stops_open h = rw (le-ltb width (faces_at (text_count s) (text_faces s) (text_face s) (first + j)) (omega (arith, row_count g l)))

  pub told_is : {count : ℕ} → Room rows width counts froms tos → count ≡ text_count s → told count width counts froms tos j ≡ stops s width first j
  told_is r e =
      ⊎_elim
      (λ h. rw (h.0, lt-ltb width (faces_at (text_count s) (text_faces s) (text_face s) (first + j)) (omega (arith, row_count g l, h.1))))
      (λ h.
      rw (h.0, e, from_row g l r h.1, to_row g l r h.1)
      (ap not (sym (closed_fan (text_count s) (text_faces s) (text_face s) (first + j))) ∙ sym (stops_open h.1)))
      (lt_split width (get_or counts j 0))

  -- the row that stops a block and is wide enough: its vertex does not close
  pub open_narrow : j ≡ least (stops s width first) rows → get_or counts j 0 ≤ width → open_at s (first + j) ≡ true
  open_narrow e h = sym (stops_open h) ∙ subst (λ i. stops s width first i ≡ true) (sym e) (first_at (stops s width first) rows (omega arith))

  -- nor does one whose row is too narrow, where rows cannot be wider
  pub open_wide : {faces from : ℕ} → FaceLines s faces from → places ≤ width → width < get_or counts j 0 → open_at s (first + j) ≡ true
  open_wide k w h = open_over (first + j) k (omega (arith, row_count g l))
