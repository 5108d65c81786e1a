-- To be believed.
-- Numbers as bytes, the lowest byte first, and the records of a file (document 01, "Mesh file"). What is read past a file's end is never used: each test asks first that the record is there whole.
-- Assumes nothing.
use Rattle.std.specs.Prelude.{Bool, cond, List, [], ◌∷◌, ◌++◌, ℕ, zero, suc, ◌+◌, ◌-◌, ◌*◌, ◌/◌, ◌%◌, leb, ltb, ℤ, pos, negsuc, length, take, drop}

-- a number as k bytes
abbrev pub bytes_of : ℕ → ℕ → List ℕ
bytes_of zero n = []
bytes_of (suc k) n = n % 256 ∷ bytes_of k (n / 256)

-- the number that these bytes give
abbrev pub number_of : List ℕ → ℕ
number_of [] = 0
number_of (b ∷ bs) = b + number_of bs * 256

-- a coordinate as a number of 32 bits
abbrev pub bits_of : ℤ → ℕ
bits_of (pos n) = n
bits_of (negsuc n) = 4294967295 - n

-- the coordinate with these 32 bits
abbrev pub coordinate_of : ℕ → ℤ
coordinate_of n = cond (ltb n 2147483648) (pos n) (negsuc (4294967295 - n))

-- the record of a kind with a payload: the payload's length in four bytes, the kind in two, the payload
unfoldable pub record_of : ℕ → List ℕ → List ℕ
record_of kind payload = bytes_of 4 (length payload) ++ (bytes_of 2 kind ++ payload)

-- the number in k bytes at a place
unfoldable pub number_at : List ℕ → ℕ → ℕ → ℕ
number_at s at k = number_of (take k (drop at s))

-- the payload's length of the record that begins at a place
unfoldable pub length_at : List ℕ → ℕ → ℕ
length_at s at = number_at s at 4

-- its kind
unfoldable pub kind_at : List ℕ → ℕ → ℕ
kind_at s at = number_at s (at + 4) 2

-- the place after it
unfoldable pub after_at : List ℕ → ℕ → ℕ
after_at s at = at + 6 + length_at s at

-- it is there whole
unfoldable pub whole_at : List ℕ → ℕ → Bool
whole_at s at = leb (after_at s at) (length s)
