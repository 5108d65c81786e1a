-- To be believed.
-- Numbering the entries of several rows: row after row, and in a row by ascending entry.
-- Assumes nothing.
use Rattle.std.specs.Prelude.{List, [], ◌∷◌, ℕ, ◌+◌, ◌-◌, ltb, length}
use Rattle.mesh.specs.Search.{bit, sum, find}

-- how many entries are below k
abbrev pub below : ℕ → List ℕ → ℕ
below k [] = 0
below k (a ∷ l) = bit (ltb a k) + below k l

-- how many entries the rows before row p have
unfoldable pub start : (ℕ → List ℕ) → ℕ → ℕ
start rows p = sum (λ i. length (rows i)) p

-- the number of the entry k of row p: how many come before it
unfoldable pub number : (ℕ → List ℕ) → ℕ → ℕ → ℕ
number rows p k = start rows p + below k (rows p)

-- back from a number to its row, of n rows, and to its entry, of entries below a bound
unfoldable pub row_of : (ℕ → List ℕ) → ℕ → ℕ → ℕ
row_of rows n x = find (start rows) x n

-- the entry that has the number x
unfoldable pub entry_of : (ℕ → List ℕ) → ℕ → ℕ → ℕ → ℕ
entry_of rows n bound x = find (λ k. below k (rows (row_of rows n x))) (x - start rows (row_of rows n x)) bound
