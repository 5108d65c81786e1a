-- To be believed.
-- The check (sections "Ring rules" and "What comes back when we say no"): reasons 2, 1, 4, 5, 6, 7 in this order, each asked of all vertices before the next.
-- Assumes nothing.
use Rattle.std.specs.Prelude.{Bool, ◌||◌, List, ℕ, ◌*◌, ◌/◌, ltb, ℤ, length, Ok}
use Rattle.mesh.specs.Limits.{least_count, most_count, least_valence, most_valence}
use Rattle.mesh.specs.Mesh.{edges, faces}
use Rattle.mesh.specs.Tests.{improper, one_sided, open_faced}
use Rattle.units.specs.Coordinate.{beyond}
use Rattle.rings.specs.Table.{Lent, valence_at, rows, coordinate_at}
use Rattle.rings.specs.Verdict.{refuse_if, refuse_at, with_counts}
use Rattle.rings.specs.declared.Refusal.TheVariants.{TableTooShort, VertexCount, RingImproper, NotMutual, NotTriangle, ControlCoordinate}
use Rattle.rings.specs.Refusal.{Counted, Verdict, counted}

-- 2: the number of vertices is under 4 or over 1,024
unfoldable pub bad_count : ℕ → Bool
bad_count n = ltb n least_count || ltb most_count n

-- 1, for valences and rings: fewer than n or 32 n items
unfoldable pub short_rings : ℕ → Lent → Bool
short_rings n t = ltb (length t.valences) n || ltb (length t.rings) (n * most_valence)

-- 1, for all three tables: positions have fewer than 3 n items, or the others are short
unfoldable pub short_tables : ℕ → Lent → List ℤ → Bool
short_tables n t ps = short_rings n t || ltb (length ps) (n * 3)

-- v's ring is improper; a valence over 32 is judged on the table itself, as the last row has no 33rd place
unfoldable pub improper_row : ℕ → Lent → ℕ → Bool
improper_row n t v = ltb most_valence (valence_at t v) || improper (rows n t) v

-- 4: v's valence is under 3, or its ring is improper
unfoldable pub unfit_row : ℕ → Lent → ℕ → Bool
unfit_row n t v = ltb (valence_at t v) least_valence || improper_row n t v

-- 7: a coordinate of v is beyond the range
unfoldable pub beyond_at : List ℤ → ℕ → Bool
beyond_at ps v = beyond (coordinate_at ps 0 v) || (beyond (coordinate_at ps 1 v) || beyond (coordinate_at ps 2 v))

-- the reasons in their order
unfoldable pub check_verdict : ℕ → Lent → List ℤ → Verdict
check_verdict n t ps =
    refuse_if (bad_count n) VertexCount
    (refuse_if (short_tables n t ps) TableTooShort
    (refuse_at (unfit_row n t) n RingImproper
    (refuse_at (one_sided (rows n t)) n NotMutual
    (refuse_at (open_faced (rows n t)) n NotTriangle
    (refuse_at (beyond_at ps) n ControlCoordinate
    (Ok tt))))))

-- V, E and F of n vertices in a sound mesh, where s adds their valences
unfoldable pub counts_of : ℕ → ℕ → Counted
counts_of n s = counted n (s / 2) (2 * (s / 2) / 3)

-- what the check answers: V, E and F, or the refusal. It writes nothing
unfoldable pub check_answer : ℕ → Lent → List ℤ → Counted
check_answer n t ps = with_counts (check_verdict n t ps) n (edges (rows n t)) (faces (rows n t))
