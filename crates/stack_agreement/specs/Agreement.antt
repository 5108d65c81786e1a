-- For inside.
-- What the quick pass over a level and the next tells: each old row of the next level agrees with the rings of the new vertices that it names, these name edges that
-- ascend, every valence is as refinement gives it, and every coordinate is in range. A pass that fails tells nothing.
-- Assumes nothing.
use Rattle.std.specs.Prelude.{◌≡◌, Bool, true, false, List, ℕ, ◌+◌, ◌*◌, ◌≤◌, ◌<◌, ℤ, pos, length, get_or, take, drop}
use Rattle.mesh.specs.Limits.{most_valence, place_bound}
use Rattle.mesh.specs.Ring.{place_after, place_before}
use Rattle.units.specs.Coordinate.{beyond}
use Rattle.rings.specs.Table.{Lent, lent, ring_of}

-- what a yes tells
abbrev pub Tells : Bool → Type 0 → Type 0
Tells answer fact = answer ≡ true → fact

-- a new vertex's ring, asked from the lesser end p of its edge p, q: the two ends, and the new vertices before and after it around p
pub record NamesUpward (ring : List ℕ) (p q before after : ℕ) : Type 0 where
  pub place0 : get_or ring 0 0 ≡ p
  pub place1 : get_or ring 1 0 ≡ before
  pub place3 : get_or ring 3 0 ≡ q
  pub place5 : get_or ring 5 0 ≡ after

-- the same, asked from the greater end p
pub record NamesDownward (ring : List ℕ) (p q before after : ℕ) : Type 0 where
  pub place0 : get_or ring 0 0 ≡ q
  pub place2 : get_or ring 2 0 ≡ after
  pub place3 : get_or ring 3 0 ≡ p
  pub place4 : get_or ring 4 0 ≡ before

-- the same, whichever end p is
pub record NamesEdge (ring : List ℕ) (p q before after : ℕ) : Type 0 where
  pub upward : p < q → NamesUpward ring p q before after
  pub downward : q ≤ p → NamesDownward ring p q before after

-- x is one of the new vertices, and its ring, in rows that begin with the next level, names the edge p, q
pub record EdgeVertex (above : List ℕ) (n end p q x before after : ℕ) : Type 0 where
  pub low : n ≤ x
  pub high : x < end
  pub names : NamesEdge (take 6 (drop (x * most_valence) above)) p q before after

-- the row of p on the next level names a new vertex for each edge of p
pub record RowAgrees (row next above : List ℕ) (n end p : ℕ) : Type 0 where
  pub place : (i : ℕ) → i < length row
      → EdgeVertex above n end p (get_or row i 0) (get_or next i 0) (get_or next (place_before (length row) i) 0) (get_or next (place_after (length row) i) 0)

-- the rows of the first k old vertices do
pub record RowsAgree (n end k : ℕ) (t : Lent) : Type 0 where
  pub row : (p : ℕ) → p < k → RowAgrees (ring_of t p) (ring_of (lent t.valences (drop (n * most_valence) t.rings)) p) (drop (n * most_valence) t.rings) n end p

-- the edge that the ring in row x names, as one number that ascends by the lesser end and then by the greater
unfoldable pub edge_key : List ℕ → ℕ → ℕ
edge_key rings x = get_or rings (x * most_valence) 0 * place_bound + get_or rings (x * most_valence + 3) 0

-- these numbers ascend over the first k rows
pub record Ascends (rings : List ℕ) (k : ℕ) : Type 0 where
  pub later : (x y : ℕ) → x < y → y < k → edge_key rings x < edge_key rings y

-- the first k old vertices of the next level have the valences they had
pub record SameValences (vs : List ℕ) (n k : ℕ) : Type 0 where
  pub same : (v : ℕ) → v < k → get_or vs (n + v) 0 ≡ get_or vs v 0

-- k valences from a place on are 6
pub record SixValences (vs : List ℕ) (from k : ℕ) : Type 0 where
  pub six : (x : ℕ) → x < k → get_or vs (from + x) 0 ≡ 6

-- k coordinates from a place on are in range
pub record NearFrom (ps : List ℤ) (from k : ℕ) : Type 0 where
  pub near : (i : ℕ) → i < k → beyond (get_or ps (from + i) (pos 0)) ≡ false
