-- To be believed.
-- The layout of a file (document 01, "Mesh file"): one record with V, V rows in vertex order, one last record, and nothing more. Reason 17 stands at the first record that is not as expected.
-- Assumes nothing.
use Rattle.std.specs.Prelude.{Bool, not, ◌&&◌, List, [], ◌∷◌, ℕ, zero, suc, ◌+◌, ◌*◌, leb, ltb, eqb, ℤ, length, Ok}
use Rattle.mesh.specs.Limits.{most_valence}
use Rattle.rings.specs.Table.{gather}
use Rattle.rings.specs.Verdict.{refuse_if, refuse_at}
use Rattle.rings.specs.declared.Refusal.TheVariants.{FileLayout}
use Rattle.file_format.specs.Bytes.{number_at, length_at, kind_at, after_at, whole_at, coordinate_of}
use Rattle.rings.specs.Refusal.{Verdict}

module _ (s : List ℕ) where
  -- V, in the first record
  unfoldable pub file_count : ℕ
  file_count = number_at s 6 2

  -- where row v begins; row V stands for the last record
  unfoldable pub row_at : ℕ → ℕ
  row_at zero = after_at s 0
  row_at (suc v) = after_at s (row_at v)

  -- the valence in the row that begins at a place
  unfoldable pub file_valence : ℕ → ℕ
  file_valence at = number_at s (at + 18) 2

  -- neighbour i of those that stand from a place on, in two bytes each
  abbrev pub neighbour_at : ℕ → ℕ → List ℕ
  neighbour_at from i = number_at s (from + i * 2) 2 ∷ []

  -- the neighbours in row v
  unfoldable pub file_ring : ℕ → List ℕ
  file_ring v = gather (neighbour_at (row_at v + 20)) (file_valence (row_at v))

  -- one coordinate in row v
  unfoldable pub file_point : ℕ → ℕ → ℤ
  file_point axis v = coordinate_of (number_at s (row_at v + 6 + axis * 4) 4)

  -- a whole record of this kind, with a payload of this length, begins at a place
  abbrev pub record_at : ℕ → ℕ → ℕ → Bool
  record_at at kind n = whole_at s at && (eqb (kind_at s at) kind && eqb (length_at s at) n)

  -- kind 1, with V
  unfoldable pub is_first : Bool
  is_first = record_at 0 1 2

  -- kind 2, a row: three coordinates, a valence n of at most 32, n neighbours
  unfoldable pub is_row : ℕ → Bool
  is_row at = record_at at 2 (14 + 2 * file_valence at) && leb (file_valence at) most_valence

  -- kind 3, empty
  unfoldable pub is_last : ℕ → Bool
  is_last at = record_at at 3 0

  -- 17
  unfoldable pub file_verdict : Verdict
  file_verdict =
      refuse_if (not is_first) (FileLayout 0)
      (refuse_at (λ v. not (is_row (row_at v))) file_count (λ v. FileLayout (row_at v))
      (refuse_if (not (is_last (row_at file_count))) (FileLayout (row_at file_count))
      (refuse_if (ltb (row_at file_count + 6) (length s)) (FileLayout (row_at file_count + 6))
      (Ok tt))))
