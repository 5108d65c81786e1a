-- The laws of `Wrote`: what is written one after the other is one block; and of numbers and coordinates. Assumes nothing.
use Prim.Native.Nat.{ℕ, suc, ◌+◌, ◌-◌, ◌*◌, ◌≤◌, ◌<◌}
use mathlib.Core.Path.{◌≡◌, refl, sym, ap, subst, ◌∙◌}
use mathlib.Core.List.{List, [], ◌∷◌, ◌++◌}
use native.Mathlib.Nat.{add-zero, suc-mul}
use native.Mathlib.Numerals.{add-one}
use native.Mathlib.Omega.{arith}
use lib.ListN.{length, set, length-append}
use Rattle.file_format.proofs.Blocks.{put_none, put_one, put_length, then}
use Rattle.numerals.specs.Wrote.{Wrote}
use mir.Syntax.{w32}
use mir.Val.{SFits, to_z, of_z}
use mir.ValLaws.{to_z-of_z}
use Rattle.file_format.specs.Blocks.{Put}
use Rattle.file_format.specs.Bytes.{bits_of, coordinate_of}
use Rattle.file_format.proofs.Signed.{low, high, bits_lt, coordinate_bits}
use lib.IntN.{ℤ}
use Rattle.rings.specs.Table.{gather}
use Rattle.numerals.specs.Numerals.{minus, digits, number, signed}
use Rattle.numerals.proofs.Digits.{digits_most}

pub wrote_length : {l m : List ℕ} {i k n : ℕ} {a : List ℕ} → Wrote l i a m k n → length m ≡ length l
wrote_length w = put_length w.put

pub wrote_none : {l : List ℕ} {i n : ℕ} → i ≤ length l → Wrote l i [] l i n
wrote_none {l} {i} {n} h = record { put = put_none h; ends = sym (add-zero i); within = omega arith }

pub wrote_byte : {l : List ℕ} {i b : ℕ} → i + 1 ≤ length l → Wrote l i (b ∷ []) (set l i b) (i + 1) 1
wrote_byte {l} {i} {b} h = record { put = put_one (omega arith); ends = refl; within = omega arith }

-- one block and then another
pub wrote_then : {l m n : List ℕ} {i j k p q : ℕ} {a b : List ℕ} (most : ℕ) → Wrote l i a m j p → Wrote m j b n k q → p + q ≤ most → Wrote l i (a ++ b) n k most
wrote_then {l} {m} {n} {i} {j} {k} {p} {q} {a} {b} most v w h =
    record {
      put = then v.put w.put v.ends;
      ends = let e = v.ends in let f = w.ends in let g = length-append a b in omega arith;
      within = let e = v.within in let f = w.within in omega arith;
    }

-- the block under another name
pub wrote_is : {l m : List ℕ} {i k n : ℕ} {a b : List ℕ} → a ≡ b → Wrote l i a m k n → Wrote l i b m k n
wrote_is {l} {m} {i} {k} {n} e w = subst (λ (x : List ℕ). Wrote l i x m k n) e w

-- the same with more room
pub wrote_wide : {l m : List ℕ} {i k p : ℕ} {a : List ℕ} (most : ℕ) → p ≤ most → Wrote l i a m k p → Wrote l i a m k most
wrote_wide {l} {m} {i} {k} {p} {a} most h w = record { put = w.put; ends = w.ends; within = let f = w.within in omega arith }

-- ---- rows

-- one row more
pub rows_more : {l m n : List ℕ} {i k e : ℕ} (f : ℕ → List ℕ) (j most : ℕ) → Wrote l i (gather f j) m k (j * most) → Wrote m k (f j) n e most
    → Wrote l i (gather f (j + 1)) n e ((j + 1) * most)
rows_more f j most v w = rw add-one (wrote_then (suc j * most) v w (let e = suc-mul j most in omega arith))

-- ---- numbers

pub number_wrote : {l m₁ m : List ℕ} {i k e : ℕ} (n last : ℕ) → Put l i (digits 20 n) m₁ → k ≡ length (digits 20 n) → Wrote m₁ (i + k) (last ∷ []) m e 1
    → Wrote l i (number n last) m e 21
unfolding number
number_wrote {l} {m₁} {m} {i} {k} n last p e w =
    wrote_then {p = 20} 21 (record { put = p; ends = ap (λ (x : ℕ). i + x) e; within = omega (arith, e, digits_most 20 n) }) w (omega arith)

-- ---- coordinates

pub signed_low : (n last : ℕ) → n < 2147483648 → number n last ≡ signed (coordinate_of n) last
unfolding signed
signed_low n last h = ap (λ (z : ℤ). signed z last) (low n h)

pub signed_high : (n last : ℕ) → 2147483648 ≤ n → n < 4294967296 → (minus ∷ []) ++ number (4294967296 - n) last ≡ signed (coordinate_of n) last
unfolding signed
signed_high n last h g =
    let e : 4294967296 - n ≡ suc (4294967295 - n) = omega arith in
    ap (λ (k : ℕ). (minus ∷ []) ++ number k last) e ∙ ap (λ (z : ℤ). signed z last) (high n h)

-- the bits of z
pub record Bits (z : ℤ) (bits : ℕ) : Type 0 where
  pub below : bits < 4294967296
  pub is : coordinate_of bits ≡ z

pub bits_are : {bits : ℕ} (z : ℤ) → SFits w32 z → bits ≡ bits_of (to_z w32 (of_z w32 z)) → Bits z bits
bits_are {bits} z f e =
    let g : bits ≡ bits_of z = e ∙ ap bits_of (to_z-of_z w32 z f) in
    record { below = omega (arith, g, bits_lt z f); is = ap coordinate_of g ∙ coordinate_bits z f }
