-- From the bytes of a text to its lines: the word, a three, and that a line that is as it should be ends in the text. Assumes nothing.
use mathlib.Core.Path.{◌≡◌, refl, ◌∙◌}
use mathlib.Core.Bool.{true, ◌&&◌}
use mathlib.Core.List.{List, [], ◌∷◌}
use Prim.Native.Nat.{ℕ, ◌+◌, ◌-◌, ◌≤◌}
use native.Mathlib.Nat.{add-zero}
use native.Mathlib.Omega.{arith}
use lib.Dec.{eqb}
use lib.ListN.{length, get_or, take, drop}
use Rattle.std.specs.List.{starts_with}
use Rattle.std.proofs.lemmas.Bool.Decides.{nat_tests}
use Rattle.std.proofs.lemmas.List.{get_or-drop, take_rest}
use Rattle.off_numbers.specs.Text.{byte_at}
use Rattle.off_numbers.proofs.Scanning.{byte_within, number_within}
use Rattle.off_units.proofs.Passing.{unit_within}
use Rattle.off_text.specs.Layout.{is_word, is_vertex, after_vertex, is_corners, is_face, after_face}
use Rattle.off_layout.specs.Judging.{is_three}

-- ---- the word

pub word_is : (s : List ℕ) → starts_with eqb s (79 ∷ 70 ∷ 70 ∷ 10 ∷ []) ≡ is_word s
unfolding is_word byte_at
word_is [] = refl
word_is (a ∷ []) = grind (arith, nat_tests)
word_is (a ∷ b ∷ []) = grind (arith, nat_tests)
word_is (a ∷ b ∷ c ∷ []) = grind (arith, nat_tests)
word_is (a ∷ b ∷ c ∷ d ∷ s) = grind (arith, nat_tests)

-- the second line begins in the text
pub word_within : (s : List ℕ) → is_word s ≡ true → 4 ≤ length s
unfolding is_word
word_within s e = grind (arith, nat_tests, byte_within s 3)

-- ---- a three

three_first : (s : List ℕ) → starts_with eqb s (51 ∷ 32 ∷ []) ≡ (eqb (get_or s 0 0) 51 && eqb (get_or s 1 0) 32)
three_first [] = refl
three_first (a ∷ []) = grind (arith, nat_tests)
three_first (a ∷ b ∷ s) = grind (arith, nat_tests)

module _ (s : List ℕ) (at : ℕ) where
  pub three_is : starts_with eqb (take (length s - at) (drop at s)) (51 ∷ 32 ∷ []) ≡ is_three s at
  unfolding byte_at
  three_is = rw take_rest (three_first (drop at s) ∙ rw (get_or-drop at s 0 0, get_or-drop at s 1 0, add-zero))

  pub three_within : is_three s at ≡ true → at + 2 ≤ length s
  three_within e = grind (arith, nat_tests, byte_within s (at + 1))

  -- ---- whole lines

  pub vertex_within : is_vertex s at ≡ true → after_vertex s at ≤ length s
  unfolding is_vertex after_vertex
  vertex_within e = grind (arith, unit_within)

  pub face_within : is_face s at ≡ true → after_face s at ≤ length s
  unfolding is_face is_corners after_face
  face_within e = grind (arith, number_within)
