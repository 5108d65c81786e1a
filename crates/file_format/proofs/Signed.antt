-- A coordinate and its 32 bits as a number, which are each the other's. Assumes nothing.
use mathlib.Core.Path.{◌≡◌, sym, ap, ◌∙◌}
use Prim.Native.Nat.{ℕ, ◌-◌, ◌≤◌, ◌<◌}
use native.Mathlib.Omega.{arith}
use borrow.Author.Tests.{le-ltb, lt-ltb}
use lib.IntN.{ℤ, pos, negsuc}
use mir.Syntax.{w32}
use mir.Val.{SFits}
use Rattle.file_format.specs.Bytes.{bits_of, coordinate_of}

pub low : (n : ℕ) → n < 2147483648 → pos n ≡ coordinate_of n
low n h = simp (lt-ltb n 2147483648 h)

pub high : (n : ℕ) → 2147483648 ≤ n → negsuc (4294967295 - n) ≡ coordinate_of n
high n h = simp (le-ltb n 2147483648 h)

pub bits_lt : (z : ℤ) → SFits w32 z → bits_of z < 4294967296
bits_lt (pos n) h = omega (arith, h.sfits)
bits_lt (negsuc n) h = omega arith

pub coordinate_bits : (z : ℤ) → SFits w32 z → coordinate_of (bits_of z) ≡ z
coordinate_bits (pos n) h = sym (low n (omega (arith, h.sfits)))
coordinate_bits (negsuc n) h =
    let e : 4294967295 - (4294967295 - n) ≡ n = omega (arith, h.sfits) in
    sym (high (4294967295 - n) (omega (arith, h.sfits))) ∙ ap negsuc e
