-- The laws of `Written`, what is written one after the other is one block; and of the lines of a face list, part after part. Assumes nothing.
use Prim.Native.Nat.{ℕ, ◌+◌, ◌*◌, ◌≤◌, ◌<◌}
use mathlib.Core.Path.{◌≡◌, refl, sym, ap, subst, ◌∙◌}
use mathlib.Core.List.{List, [], ◌∷◌, ◌++◌}
use native.Mathlib.Nat.{add-zero}
use native.Mathlib.Numerals.{add-one}
use native.Mathlib.Omega.{arith}
use lib.IntN.{ℤ, pos}
use lib.ListN.{length, get_or, set, length-append, length-set}
use Rattle.rings.specs.Table.{gather, coordinate_at}
use Rattle.file_format.proofs.Blocks.{put_none, put_one, put_length, then}
use Rattle.file_format.proofs.Gathered.{gather_split}
use Rattle.numerals.specs.Numerals.{blank, newline, number, signed}
use Rattle.numerals.specs.Wrote.{Wrote}
use Rattle.off_text.specs.WriteOff.{counts_line, vertex_line, face_line}
use Rattle.off_lines.specs.Written.{Written, line_of}

pub written_length : {l m : List ℕ} {i k : ℕ} {a : List ℕ} → Written l i a m k → length m ≡ length l
written_length w = put_length w.put

pub written_none : {l : List ℕ} {i : ℕ} → i ≤ length l → Written l i [] l i
written_none {l} {i} h = record { put = put_none h; ends = sym (add-zero i) }

-- one block and then another
pub written_then : {l m n : List ℕ} {i j k : ℕ} {a b : List ℕ} → Written l i a m j → Written m j b n k → Written l i (a ++ b) n k
written_then {l} {m} {n} {i} {j} {k} {a} {b} v w =
    record { put = then v.put w.put v.ends; ends = let e = v.ends in let f = w.ends in let g = length-append a b in omega arith }

-- the block under another name
pub written_is : {l m : List ℕ} {i k : ℕ} {a b : List ℕ} → a ≡ b → Written l i a m k → Written l i b m k
written_is {l} {m} {i} {k} e w = subst (λ (x : List ℕ). Written l i x m k) e w

-- without its most bytes
written : {l m : List ℕ} {i k most : ℕ} {a : List ℕ} → Wrote l i a m k most → Written l i a m k
written w = record { put = w.put; ends = w.ends }

-- ---- lines

-- one line more
pub lines_more : {l m n : List ℕ} {i k e : ℕ} (f : ℕ → List ℕ) (v : ℕ) → Written l i (gather f v) m k → Written m k (f v) n e
    → Written l i (gather f (v + 1)) n e
lines_more f v p q = rw add-one (written_then p q)

-- there is room for line v behind those before it, where there is for n lines
pub line_fits : (f : ℕ → List ℕ) (v n : ℕ) → v < n → length (gather f v) + length (f v) ≤ length (gather f n)
line_fits f v n h =
    let (more, e) = gather_split f v n h in
    omega (arith, ap length e, length-append (gather f v) (f v ++ more), length-append (f v) more)

-- ---- parts

length_three : (a b c : List ℕ) → length (a ++ (b ++ c)) ≡ length a + (length b + length c)
length_three a b c = omega (arith, length-append a (b ++ c), length-append b c)

pub counts_length : (v f e : ℕ) → length (counts_line v f e) ≡ length (number v blank) + (length (number f blank) + length (number e newline))
unfolding counts_line
counts_length v f e = length_three (number v blank) (number f blank) (number e newline)

pub counts_written : {l m₁ m₂ m : List ℕ} {i k₁ k₂ k : ℕ} (v f e : ℕ) → Wrote l i (number v blank) m₁ k₁ 21
    → Wrote m₁ k₁ (number f blank) m₂ k₂ 21
    → Wrote m₂ k₂ (number e newline) m k 21
    → Written l i (counts_line v f e) m k
unfolding counts_line
counts_written v f e x y z = written_then (written x) (written_then (written y) (written z))

module _ (ps : List ℤ) (v : ℕ) where
  -- the coordinate at a place, and the byte behind it
  abbrev pub coordinate : ℕ → ℕ → List ℕ
  coordinate i last = signed (get_or ps i (pos 0)) last

  line_is : coordinate (v * 3) blank ++ (coordinate (v * 3 + 1) blank ++ coordinate (v * 3 + 2) newline) ≡ line_of ps v
  unfolding vertex_line coordinate_at
  line_is = ap (λ (i : ℕ). coordinate i blank ++ (coordinate (v * 3 + 1) blank ++ coordinate (v * 3 + 2) newline)) (sym (add-zero (v * 3)))

  pub vertex_length : length (line_of ps v)
      ≡ length (coordinate (v * 3) blank) + (length (coordinate (v * 3 + 1) blank) + length (coordinate (v * 3 + 2) newline))
  vertex_length = ap length (sym line_is) ∙ length_three (coordinate (v * 3) blank) (coordinate (v * 3 + 1) blank) (coordinate (v * 3 + 2) newline)

  pub vertex_written : {l m₁ m₂ m : List ℕ} {i k₁ k₂ k : ℕ} → Wrote l i (coordinate (v * 3) blank) m₁ k₁ 22
      → Wrote m₁ k₁ (coordinate (v * 3 + 1) blank) m₂ k₂ 22
      → Wrote m₂ k₂ (coordinate (v * 3 + 2) newline) m k 22
      → Written l i (line_of ps v) m k
  vertex_written x y z = written_is line_is (written_then (written x) (written_then (written y) (written z)))

module _ (a b c : ℕ) where
  pub face_length : length (face_line (record { a = a; b = b; c = c })) ≡ 2 + (length (number a blank) + (length (number b blank) + length (number c newline)))
  unfolding face_line
  face_length = omega (arith, length_three (number a blank) (number b blank) (number c newline))

  pub face_written : {l m₁ m₂ m : List ℕ} {i k₁ k₂ k : ℕ} → i + 2 ≤ length l
      → Wrote (set (set l i 51) (i + 1) blank) (i + 2) (number a blank) m₁ k₁ 21
      → Wrote m₁ k₁ (number b blank) m₂ k₂ 21
      → Wrote m₂ k₂ (number c newline) m k 21
      → Written l i (face_line (record { a = a; b = b; c = c })) m k
  unfolding face_line
  face_written {l} {m₁} {m₂} {m} {i} h x y z =
      let head : Written l i (51 ∷ blank ∷ []) (set (set l i 51) (i + 1) blank) (i + 2) =
      record { put = then (put_one (omega arith)) (put_one (simp length-set (omega arith))) refl; ends = refl } in
      written_then head (written_then (written x) (written_then (written y) (written z)))
