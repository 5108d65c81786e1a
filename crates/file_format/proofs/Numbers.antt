-- Numbers in bytes: what two and four bytes at a place give. Assumes nothing.
use Prim.Native.Nat.{ℕ, suc, ◌+◌, ◌*◌, ◌/◌, ◌%◌, ◌≤◌, ◌<◌}
use mathlib.Core.Path.{◌≡◌, refl, ap}
use mathlib.Core.List.{List}
use native.Mathlib.Numerals.{add-one}
use native.Mathlib.Omega.{arith}
use lib.ListN.{length, get_or}
use lib.Seq.{drop-cons}
use Rattle.std.specs.Int.{w16, w32, to_le_bytes}
use Rattle.file_format.specs.Bytes.{bytes_of, number_at}

-- one byte, and the others behind it
pub number_cons : (s : List ℕ) (at k : ℕ) → at < length s → number_at s at (suc k) ≡ get_or s at 0 + number_at s (at + 1) k * 256
unfolding number_at
number_cons s at k h = rw (add-one, drop-cons s at 0)

pub number_none : (s : List ℕ) (at : ℕ) → number_at s at 0 ≡ 0
unfolding number_at
number_none s at = refl

pub number_two : (s : List ℕ) (at : ℕ) → at + 2 ≤ length s → number_at s at 2 ≡ get_or s at 0 + get_or s (at + 1) 0 * 256
number_two s at h = omega (arith, number_cons s at 1 (omega arith), number_cons s (at + 1) 0 (omega arith), number_none s (at + 1 + 1))

pub number_four : (s : List ℕ) (at : ℕ) → at + 4 ≤ length s → number_at s at 4 ≡ get_or s at 0 + get_or s (at + 1) 0 * 256 + get_or s (at + 2) 0 * 65536 + get_or s (at + 3) 0 * 16777216
number_four s at h =
    let a : at + 1 + 1 ≡ at + 2 = omega arith in
    let b : at + 2 + 1 ≡ at + 3 = omega arith in
    let c = ap (λ (k : ℕ). number_at s k 2) a in
    let d = ap (λ (k : ℕ). number_at s k 1) b in
    omega (arith, number_cons s at 3 (omega arith), number_cons s (at + 1) 2 (omega arith), number_cons s (at + 2) 1 (omega arith), number_cons s (at + 3) 0 (omega arith), number_none s (at + 3 + 1))

-- the low bytes of a number
pub low_two : (n : ℕ) → to_le_bytes w16 (n % 65536) ≡ bytes_of 2 n
low_two n =
    let a : n % 65536 % 256 ≡ n % 256 = omega arith in
    let b : n % 65536 / 256 % 256 ≡ n / 256 % 256 = omega arith in
    rw (a, b)

pub low_four : (n : ℕ) → to_le_bytes w32 (n % 4294967296) ≡ bytes_of 4 n
low_four n =
    let m = n % 4294967296 in
    let a : m % 256 ≡ n % 256 = omega arith in
    let b : m / 256 % 256 ≡ n / 256 % 256 = omega arith in
    let c : m / 65536 % 256 ≡ n / 256 / 256 % 256 = omega arith in
    let d : m / 16777216 % 256 ≡ n / 256 / 256 / 256 % 256 = omega arith in
    rw (a, b, c, d)
