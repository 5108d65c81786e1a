-- Lines that were written are read back. Assumes nothing.
use mathlib.Core.Path.{◌≡◌, refl, sym, ap, ◌∙◌, subst}
use mathlib.Core.Bool.{true, false}
use mathlib.Core.List.{List, [], ◌∷◌, ◌++◌, append_assoc, append-nil}
use mathlib.Core.Logic.{◌⊎◌, inl, ⊎_elim}
use Prim.Native.Nat.{ℕ, zero, suc, ◌+◌, ◌*◌, ◌≤◌, ◌<◌}
use native.Mathlib.Nat.{add-zero, eq-or-lt_of_le, le_of_suc-le-suc}
use native.Mathlib.Omega.{arith}
use lib.IntN.{ℤ}
use lib.ListN.{length, get_or, length-append}
use borrow.Author.Tests.{eq-eqb}
use Rattle.rings.specs.Table.{gather}
use Rattle.numerals.specs.Numerals.{number, signed}
use Rattle.off_numbers.specs.Text.{byte_at, value_at, after_at, is_number, is_unit, unit_at, after_unit}
use Rattle.off_rings.specs.Faces.{Face, bad_face}
use Rattle.off_text.specs.Layout.{is_word, text_count, text_faces, text_edges, is_counts}
use Rattle.off_text.specs.Layout.{is_vertex, after_vertex, vertex_at, axis_at, corners_at, is_corners, is_face, after_face}
use Rattle.off_text.specs.WriteOff.{word, counts_line, vertex_line, face_line, face_lines}
use Rattle.off_text.proofs.Standing.{Stands, stands_front, stands_back, stands_at}
use Rattle.off_text.proofs.NumbersRead.{number_read, unit_read, Held}

blank_other : (32 < 48) ⊎ (57 < 32)
blank_other = inl (omega arith)

newline_other : (10 < 48) ⊎ (57 < 10)
newline_other = inl (omega arith)

-- ---- three numbers with single blanks between them

pub record ThreeRead (s : List ℕ) (at a b c next : ℕ) : Type 0 where
  pub first : is_number s at 4294967296 32 ≡ true
  pub second : is_number s (after_at s at) 4294967296 32 ≡ true
  pub third : is_number s (after_at s (after_at s at)) 4294967296 10 ≡ true
  pub a_is : value_at s at ≡ a
  pub b_is : value_at s (after_at s at) ≡ b
  pub c_is : value_at s (after_at s (after_at s at)) ≡ c
  pub behind : after_at s (after_at s (after_at s at)) ≡ next

abbrev three : ℕ → ℕ → ℕ → List ℕ
three a b c = number a 32 ++ (number b 32 ++ number c 10)

three_read : (s : List ℕ) (at a b c : ℕ) → a < 4294967296 → b < 4294967296 → c < 4294967296 → Stands s at (three a b c)
    → ThreeRead s at a b c (at + length (three a b c))
three_read s at a b c ha hb hc k =
    let rest : List ℕ = number b 32 ++ number c 10 in
    let r₁ = number_read s at a 32 ha blank_other (stands_front s at (number a 32) rest k) 4294967296 ha in
    let at₂ : ℕ = at + length (number a 32) in
    let k₂ : Stands s at₂ rest = stands_back s at (number a 32) rest k in
    let r₂ = number_read s at₂ b 32 hb blank_other (stands_front s at₂ (number b 32) (number c 10) k₂) 4294967296 hb in
    let at₃ : ℕ = at₂ + length (number b 32) in
    let r₃ = number_read s at₃ c 10 hc newline_other (stands_back s at₂ (number b 32) (number c 10) k₂) 4294967296 hc in
    let e₂ : after_at s at ≡ at₂ = r₁.behind in
    let e₃ : after_at s (after_at s at) ≡ at₃ = ap (after_at s) e₂ ∙ r₂.behind in
    record {
      first = r₁.is;
      second = rw e₂ r₂.is;
      third = rw e₃ r₃.is;
      a_is = r₁.worth;
      b_is = ap (value_at s) e₂ ∙ r₂.worth;
      c_is = ap (value_at s) e₃ ∙ r₃.worth;
      behind = ap (after_at s) e₃ ∙ r₃.behind ∙ omega (arith, length-append (number a 32) rest, length-append (number b 32) (number c 10));
    }

-- ---- the lines

pub word_read : (s : List ℕ) → Stands s 0 word → is_word s ≡ true
unfolding is_word
word_read s k = rw (k.byte 0 (omega arith), k.byte 1 (omega arith), k.byte 2 (omega arith), k.byte 3 (omega arith))

module _ (s : List ℕ) (v f e : ℕ) (hv : v < 4294967296) (hf : f < 4294967296) (he : e < 4294967296) (k : Stands s 4 (counts_line v f e)) where
  counts_three : ThreeRead s 4 v f e (4 + length (counts_line v f e))
  unfolding counts_line
  counts_three = three_read s 4 v f e hv hf he k

  pub count_is : text_count s ≡ v
  unfolding text_count
  count_is = counts_three.a_is

  pub faces_is : text_faces s ≡ f
  unfolding text_faces
  faces_is = counts_three.b_is

  edges_is : text_edges s ≡ e
  unfolding text_edges
  edges_is = counts_three.c_is

  pub counts_read : 2 * e ≡ 3 * f → is_counts s ≡ true
  unfolding is_counts
  counts_read q = let r = counts_three in rw (r.first, r.second, r.third, edges_is, faces_is) (eq-eqb (2 * e) (3 * f) q)

  pub vertices_begin : vertex_at s 0 ≡ 4 + length (counts_line v f e)
  unfolding vertex_at
  vertices_begin = counts_three.behind

pub record VertexRead (s : List ℕ) (at : ℕ) (point : ℕ → ℤ) : Type 0 where
  pub is : is_vertex s at ≡ true
  pub x_is : unit_at s (axis_at s at 0) ≡ point 0
  pub y_is : unit_at s (axis_at s at 1) ≡ point 1
  pub z_is : unit_at s (axis_at s at 2) ≡ point 2
  pub behind : after_vertex s at ≡ at + length (vertex_line point)

pub vertex_read : (s : List ℕ) (at : ℕ) (point : ℕ → ℤ) → Held (point 0) → Held (point 1) → Held (point 2) → Stands s at (vertex_line point)
    → VertexRead s at point
unfolding is_vertex axis_at after_vertex vertex_line
vertex_read s at point hx hy hz k =
    let a : List ℕ = signed (point 0) 32 in
    let b : List ℕ = signed (point 1) 32 in
    let c : List ℕ = signed (point 2) 10 in
    let r₁ = unit_read s at 32 blank_other (point 0) hx (stands_front s at a (b ++ c) k) in
    let at₂ : ℕ = at + length a in
    let k₂ : Stands s at₂ (b ++ c) = stands_back s at a (b ++ c) k in
    let r₂ = unit_read s at₂ 32 blank_other (point 1) hy (stands_front s at₂ b c k₂) in
    let at₃ : ℕ = at₂ + length b in
    let r₃ = unit_read s at₃ 10 newline_other (point 2) hz (stands_back s at₂ b c k₂) in
    let e₂ : after_unit s at ≡ at₂ = r₁.behind in
    let e₃ : after_unit s (after_unit s at) ≡ at₃ = ap (after_unit s) e₂ ∙ r₂.behind in
    let i₂ : is_unit s (after_unit s at) 32 ≡ true = rw e₂ r₂.is in
    let i₃ : is_unit s (after_unit s (after_unit s at)) 10 ≡ true = rw e₃ r₃.is in
    record {
      is = rw (r₁.is, i₂, i₃);
      x_is = r₁.worth;
      y_is = ap (unit_at s) e₂ ∙ r₂.worth;
      z_is = ap (unit_at s) e₃ ∙ r₃.worth;
      behind = ap (after_unit s) e₃ ∙ r₃.behind ∙ omega (arith, length-append a (b ++ c), length-append b c);
    }

pub record FaceRead (s : List ℕ) (at : ℕ) (f : Face) : Type 0 where
  pub is : bad_face (text_count s) f ≡ false → is_face s at ≡ true
  pub corners : corners_at s at ≡ f
  pub behind : after_face s at ≡ at + length (face_line f)

pub face_read : (s : List ℕ) (at : ℕ) (f : Face) → f.a < 4294967296 → f.b < 4294967296 → f.c < 4294967296 → Stands s at (face_line f)
    → FaceRead s at f
unfolding is_face is_corners corners_at after_face face_line
face_read s at f ha hb hc k =
    let head : List ℕ = 51 ∷ 32 ∷ [] in
    let rest : List ℕ = three f.a f.b f.c in
    let h : Stands s at head = stands_front s at head rest k in
    let b₀ : byte_at s at ≡ 51 = ap (byte_at s) (sym (add-zero at)) ∙ h.byte 0 (omega arith) in
    let b₁ : byte_at s (at + 1) ≡ 32 = h.byte 1 (omega arith) in
    let r = three_read s (at + 2) f.a f.b f.c ha hb hc (stands_back s at head rest k) in
    let same : corners_at s at ≡ f = corners_are s at f r.a_is r.b_is r.c_is in
    record {
      is = λ g. rw (b₀, b₁, r.first, r.second, r.third, same, g);
      corners = same;
      behind = r.behind ∙ omega arith;
    }
  where
    corners_are : (s : List ℕ) (at : ℕ) (f : Face)
        → value_at s (at + 2) ≡ f.a → value_at s (after_at s (at + 2)) ≡ f.b → value_at s (after_at s (after_at s (at + 2))) ≡ f.c
        → corners_at s at ≡ f
    corners_are s at f p q r = rw (p, q, r)

-- ---- lines one after the other

gather_stands : (s : List ℕ) (base : ℕ) (f : ℕ → List ℕ) (n v : ℕ) → Stands s base (gather f n) → v < n → Stands s (base + length (gather f v)) (f v)
gather_stands s base f zero v k h = absurd (omega arith)
gather_stands s base f (suc n) v k h =
    ⊎_elim
    (λ e. subst (λ i. Stands s (base + length (gather f i)) (f i)) (sym e) (stands_back s base (gather f n) (f n) k))
    (λ l. gather_stands s base f n v (stands_front s base (gather f n) (f n) k) l)
    (eq-or-lt_of_le (le_of_suc-le-suc h))

module _ (s : List ℕ) (base : ℕ) (f : ℕ → List ℕ) (n : ℕ) (place : ℕ → ℕ) (k : Stands s base (gather f n)) (start : place 0 ≡ base)
    (step : (v : ℕ) → v < n → Stands s (place v) (f v) → place (suc v) ≡ place v + length (f v)) where
  pub lines_place : (v : ℕ) → v ≤ n → place v ≡ base + length (gather f v)
  lines_place zero h = start ∙ sym (add-zero base)
  lines_place (suc v) h =
      let ih : place v ≡ base + length (gather f v) = lines_place v (omega arith) in
      step v (omega arith) (stands_at s _ (place v) (f v) (sym ih) (gather_stands s base f n v k (omega arith)))
      ∙ ap (λ i. i + length (f v)) ih
      ∙ omega (arith, length-append (gather f v) (f v))

  pub lines_stand : (v : ℕ) → v < n → Stands s (place v) (f v)
  lines_stand v h = stands_at s _ (place v) (f v) (sym (lines_place v (omega arith))) (gather_stands s base f n v k h)

-- the lines of a list of faces
gather_front : (f : ℕ → List ℕ) (n : ℕ) → gather f (suc n) ≡ f 0 ++ gather (λ i. f (suc i)) n
gather_front f zero = sym (append-nil (f 0))
gather_front f (suc n) = ap (λ l. l ++ f (suc n)) (gather_front f n) ∙ append_assoc (f 0) (gather (λ i. f (suc i)) n) (f (suc n))

pub lines_gather : (l : List Face) (d : Face) → face_lines l ≡ gather (λ i. face_line (get_or l i d)) (length l)
unfolding face_lines
lines_gather [] d = refl
lines_gather (a ∷ l) d = ap (λ t. face_line a ++ t) (lines_gather l d) ∙ sym (gather_front (λ i. face_line (get_or (a ∷ l) i d)) (length l))
