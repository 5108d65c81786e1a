-- A block that stands in a text at a place, byte for byte. Assumes nothing.
use mathlib.Core.Path.{◌≡◌, ap, ◌∙◌, subst}
use mathlib.Core.List.{List, ◌++◌}
use Prim.Native.Nat.{ℕ, ◌+◌, ◌<◌}
use native.Mathlib.Nat.{add_assoc, zero-add}
use native.Mathlib.Omega.{arith}
use lib.ListN.{length, get_or, length-append, get_or-append}
use lib.Seq.{get_or-append-add}
use Rattle.off_numbers.specs.Text.{byte_at}

pub record Stands (s : List ℕ) (at : ℕ) (block : List ℕ) : Type 0 where
  pub byte : (i : ℕ) → i < length block → byte_at s (at + i) ≡ get_or block i 0

-- a text stands in itself
pub stands_whole : (s : List ℕ) → Stands s 0 s
unfolding byte_at
stands_whole s = record { byte = λ i h. ap (λ k. get_or s k 0) (zero-add i) }

module _ (s : List ℕ) (at : ℕ) (a b : List ℕ) (k : Stands s at (a ++ b)) where
  pub stands_front : Stands s at a
  stands_front = record { byte = λ i h. k.byte i (omega (arith, length-append a b)) ∙ get_or-append a b 0 i h }

  pub stands_back : Stands s (at + length a) b
  stands_back = record {
    byte = λ i h.
        ap (byte_at s) (add_assoc at (length a) i) ∙ k.byte (length a + i) (omega (arith, length-append a b)) ∙ get_or-append-add a b i 0;
  }

pub stands_at : (s : List ℕ) (at at' : ℕ) (b : List ℕ) → at ≡ at' → Stands s at b → Stands s at' b
stands_at s at at' b e k = subst (λ p. Stands s p b) e k
