-- To be believed.
-- The map of touched points, as section "Moves" has it: 32-bit words, number i in bit i mod 32 of word i / 32.
-- Assumes nothing.
use Rattle.std.specs.Prelude.{◌≡◌, Bool, true, false, cond, ◌&&◌, List, [], ◌∷◌, ℕ, ◌+◌, ◌*◌, ◌/◌, ◌%◌, ◌^◌, ◌<◌, ltb, eqb, get_or}
use Rattle.std.specs.Int.Count.{ones}
use Rattle.mesh.specs.Search.{bit, sum}
use Rattle.rings.specs.Table.{gather}

-- bit k of a word
unfoldable pub bit_of : ℕ → ℕ → Bool
bit_of w k = eqb (w / 2 ^ k % 2) 1

-- number i is marked in a map
unfoldable pub marked : List ℕ → ℕ → Bool
marked m i = bit_of (get_or m (i / 32) 0) (i % 32)

-- the words that n bits need
abbrev pub word_count : ℕ → ℕ
word_count n = (n + 31) / 32

-- word w of the map of a set's members below n; bits past them are zero
unfoldable pub word : (ℕ → Bool) → ℕ → ℕ → ℕ
word set n w = sum (λ b. bit (ltb (w * 32 + b) n && set (w * 32 + b)) * 2 ^ b) 32

-- the map of a set's members below n
unfoldable pub map_words : (ℕ → Bool) → ℕ → List ℕ
map_words set n = gather (λ w. word set n w ∷ []) (word_count n)

-- how many members a set has below n
unfoldable pub members : (ℕ → Bool) → ℕ → ℕ
members set n = sum (λ i. bit (set i)) n

-- the number of ones in the first k words
unfoldable pub ones_in : List ℕ → ℕ → ℕ
ones_in m k = sum (λ w. ones (get_or m w 0)) k

-- the set with i in it
unfoldable pub including : (ℕ → Bool) → ℕ → ℕ → Bool
including set i j = cond (eqb j i) true (set j)

-- the set without its members below n
unfoldable pub emptied : ℕ → (ℕ → Bool) → ℕ → Bool
emptied n set j = cond (ltb j n) false (set j)

-- k numbers from a place on are not in the set
pub record NoneFrom (set : ℕ → Bool) (from k : ℕ) : Type 0 where
  pub none : (i : ℕ) → i < k → set (from + i) ≡ false

-- each word is a 32-bit word
pub record Words (m : List ℕ) : Type 0 where
  pub small : (w : ℕ) → get_or m w 0 < 2 ^ 32
