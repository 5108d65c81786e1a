-- The lines of the listing, written part after part. Assumes nothing.
use Prim.Native.Nat.{ℕ, ◌+◌, ◌*◌, ◌≤◌}
use mathlib.Core.Path.{◌≡◌, refl, sym, ap}
use mathlib.Core.List.{List, ◌++◌}
use native.Mathlib.Nat.{add-zero}
use native.Mathlib.Omega.{arith}
use lib.ListN.{length, get_or, drop}
use Rattle.file_format.specs.Blocks.{Put}
use Rattle.numerals.specs.Wrote.{Wrote}
use Rattle.numerals.specs.Numerals.{blank, newline, number, signed}
use Rattle.numerals.proofs.Writing.{wrote_is, wrote_then}
use lib.IntN.{ℤ, pos}
use Rattle.rings.specs.Table.{coordinate_at, put}
use Rattle.rings.specs.Refusal.{number_of, place_of}
use Rattle.rings.specs.declared.Refusal.{Refusal}
use Rattle.listing_lines.specs.Lines.{vertex_line, word, refused_line}

pub vertex_wrote : {l m₁ m₂ m₃ m₄ m : List ℕ} {i k₁ k₂ k₃ k₄ k : ℕ} (vs : List ℕ) (ps : List ℤ) (base j : ℕ) → Wrote l i (number j blank) m₁ k₁ 21
    → Wrote m₁ k₁ (signed (get_or ps ((base + j) * 3) (pos 0)) blank) m₂ k₂ 22
    → Wrote m₂ k₂ (signed (get_or ps ((base + j) * 3 + 1) (pos 0)) blank) m₃ k₃ 22
    → Wrote m₃ k₃ (signed (get_or ps ((base + j) * 3 + 2) (pos 0)) blank) m₄ k₄ 22
    → Wrote m₄ k₄ (number (get_or vs (base + j) 0) newline) m k 21
    → Wrote l i (vertex_line vs ps base j) m k 108
unfolding vertex_line coordinate_at
vertex_wrote vs ps base j a x y z b =
    wrote_then 108 a
    (wrote_then 87 (wrote_is (ap (λ (p : ℕ). signed (get_or ps p (pos 0)) blank) (sym (add-zero ((base + j) * 3)))) x)
    (wrote_then 65 y (wrote_then 43 z b (omega arith)) (omega arith))
    (omega arith))
    (omega arith)

pub word_put : (l w : List ℕ) → 8 ≤ length l → w ≡ word → Put l 0 word (w ++ drop 8 l)
unfolding put
word_put l w h e = record { fits = omega arith; is = ap (λ (x : List ℕ). x ++ drop 8 l) e }

pub refused_wrote : {l m₁ m₂ m : List ℕ} {k₂ k n p : ℕ} (r : Refusal) → Put l 0 word m₁ → n ≡ number_of r → Wrote m₁ 8 (number n blank) m₂ k₂ 21 → p ≡ place_of r → Wrote m₂ k₂ (number p newline) m k 21 → Wrote l 0 (refused_line r) m k 50
unfolding refused_line
refused_wrote r w e a f b =
    wrote_then {p = 8} 50 (record { put = w; ends = refl; within = omega arith })
    (wrote_then 42 (wrote_is (ap (λ (x : ℕ). number x blank) e) a) (wrote_is (ap (λ (x : ℕ). number x newline) f) b) (omega arith))
    (omega arith)
