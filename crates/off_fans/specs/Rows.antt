-- For inside.
-- Lists kept as rows of one width in a table, each with its count. A list that is longer than the row is counted in full, and only its front is kept.
-- Assumes nothing.
use Rattle.std.specs.Prelude.{◌≡◌, cond, List, [], ◌∷◌, ◌++◌, ℕ, ◌+◌, ◌*◌, ◌≤◌, ◌<◌, eqb, length, get_or}

-- row j keeps the list l
pub record Kept (width j : ℕ) (counts table l : List ℕ) : Type 0 where
  pub count : get_or counts j 0 ≡ length l
  pub entry : (i : ℕ) → i < length l → i < width → get_or table (j * width + i) 0 ≡ get_or l i 0

-- each of the rows keeps a list in the one table and a list in the other
pub record Fans (rows width : ℕ) (counts froms tos : List ℕ) (A B : ℕ → List ℕ) : Type 0 where
  pub from : (j : ℕ) → j < rows → Kept width j counts froms (A j)
  pub to : (j : ℕ) → j < rows → Kept width j counts tos (B j)

-- the lists with one entry more in row j
abbrev pub added : (ℕ → List ℕ) → ℕ → ℕ → ℕ → List ℕ
added A j x i = cond (eqb i j) (A i ++ (x ∷ [])) (A i)

-- one entry more was noted in row j of both tables
pub record Noted (width j x w : ℕ) (counts froms tos counts' froms' tos' : List ℕ) : Type 0 where
  pub counts_same : length counts' ≡ length counts
  pub froms_same : length froms' ≡ length froms
  pub tos_same : length tos' ≡ length tos
  pub more : (rows : ℕ) (A B : ℕ → List ℕ) → rows ≤ length counts → j < rows → Fans rows width counts froms tos A B
      → Fans rows width counts' froms' tos' (added A j x) (added B j w)

-- the tables have the rows
pub record Room (rows width : ℕ) (counts froms tos : List ℕ) : Type 0 where
  pub counts_long : rows ≤ length counts
  pub froms_long : rows * width ≤ length froms
  pub tos_long : rows * width ≤ length tos

-- no count is as great as a number can be
pub record Low (rows : ℕ) (counts : List ℕ) : Type 0 where
  pub low : (j : ℕ) → j < rows → get_or counts j 0 < 18446744073709551615

-- the lists with one entry more for vertex v, where row j is that of vertex first + j
abbrev pub added_at : ℕ → (ℕ → List ℕ) → ℕ → ℕ → ℕ → List ℕ
added_at first A v x j = cond (eqb (first + j) v) (A j ++ (x ∷ [])) (A j)

-- one entry more was noted for vertex v, where it has a row
pub record NotedIn (first rows width x v w : ℕ) (counts froms tos counts' froms' tos' : List ℕ) : Type 0 where
  pub counts_same : length counts' ≡ length counts
  pub froms_same : length froms' ≡ length froms
  pub tos_same : length tos' ≡ length tos
  pub more : (A B : ℕ → List ℕ) → Fans rows width counts froms tos A B → Fans rows width counts' froms' tos' (added_at first A v x) (added_at first B v w)

-- the rows have no entries any more
pub record Cleared (rows : ℕ) (counts counts' : List ℕ) : Type 0 where
  pub same : length counts' ≡ length counts
  pub none : (j : ℕ) → j < rows → get_or counts' j 0 ≡ 0
