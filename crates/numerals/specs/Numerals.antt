-- To be believed.
-- Numbers as bytes (document 01, the listing; document 02, order 4): decimal numerals, and the byte behind each.
-- Assumes nothing.
use Rattle.std.specs.Prelude.{cond, List, [], ◌∷◌, ◌++◌, ℕ, zero, suc, ◌+◌, ◌/◌, ◌%◌, ltb, ℤ, pos, negsuc}

-- a minus sign, and the digit d
abbrev pub minus : ℕ
minus = 45

abbrev pub digit : ℕ → ℕ
digit d = 48 + d

-- a blank, and a newline
abbrev pub blank : ℕ
blank = 32

abbrev pub newline : ℕ
newline = 10

-- the decimal digits of n, at most k of them, with no zeros in front
unfoldable pub digits : ℕ → ℕ → List ℕ
digits zero n = []
digits (suc k) n = cond (ltb n 10) (digit n ∷ []) (digits k (n / 10) ++ (digit (n % 10) ∷ []))

-- a number, which is below 10^20 as every number of 64 bits is, and the byte behind it
unfoldable pub number : ℕ → ℕ → List ℕ
number n last = digits 20 n ++ (last ∷ [])

-- a coordinate: a minus sign stands before a negative one
unfoldable pub signed : ℤ → ℕ → List ℕ
signed (pos n) last = number n last
signed (negsuc n) last = (minus ∷ []) ++ number (suc n) last
