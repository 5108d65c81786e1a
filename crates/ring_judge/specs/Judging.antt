-- To be believed.
-- What the ring calls judge, in what order (document 01, "Ring rules" and the order of ring calls).
-- Assumes nothing.
use Rattle.std.specs.Prelude.{Bool, ◌||◌, List, ℕ, ltb, leb, eqb, length, get_or, Ok}
use Rattle.mesh.specs.Limits.{most_valence}
use Rattle.mesh.specs.Search.{some}
use Rattle.mesh.specs.Ring.{has}
use Rattle.mesh.specs.Tests.{repeat_at}
use Rattle.rings.specs.Table.{Lent, ring_of}
use Rattle.rings.specs.Verdict.{refuse_if, refuse_at, and_then}
use Rattle.rings.specs.Check.{bad_count, short_rings, improper_row}
use Rattle.rings.specs.declared.Refusal.TheVariants.{TableTooShort, VertexCount, NoSuchVertex, RingImproper, NeighbourTaken, RingFull}
use Rattle.rings.specs.Refusal.{Verdict}

-- the number at place i of a list is not below n
abbrev pub unknown_at : ℕ → List ℕ → ℕ → Bool
unknown_at n l i = leb n (get_or l i 0)

-- the number at place i of a list for v is v itself or a repeat
abbrev pub taken_at : ℕ → List ℕ → ℕ → Bool
taken_at v l i = eqb (get_or l i 0) v || repeat_at l i

module _ (n : ℕ) (t : Lent) (v : ℕ) where
  -- 2, 1, 3: the number of vertices, room in both tables, and v itself; judged in every call
  unfoldable pub table_verdict : Verdict
  table_verdict = refuse_if (bad_count n) VertexCount (refuse_if (short_rings n t) TableTooShort (refuse_if (leb n v) (NoSuchVertex 0) (Ok tt)))

  -- then 4, in every call but a make: v's ring is not proper; a valence of 0, 1 or 2 passes
  unfoldable pub call_verdict : Verdict
  call_verdict = and_then table_verdict (refuse_if (improper_row n t v) (RingImproper v) (Ok tt))

  -- a make: 16, 3 and 15, each over the whole list before the next; v's old ring does not matter
  unfoldable pub make_verdict : List ℕ → Verdict
  make_verdict l =
      and_then table_verdict
      (refuse_if (ltb most_valence (length l)) RingFull
      (refuse_at (unknown_at n l) (length l) NoSuchVertex
      (refuse_if (some (taken_at v l) (length l)) NeighbourTaken
      (Ok tt))))

  -- x is in v's ring, or is v, and so may not come in
  unfoldable pub taken : ℕ → Bool
  taken x = eqb x v || has x (ring_of t v)

  -- 3 and 15 for the number that comes in: judged before a is looked for
  unfoldable pub entry_verdict : ℕ → Verdict
  entry_verdict x = and_then call_verdict (refuse_if (leb n x) (NoSuchVertex 0) (refuse_if (taken x) NeighbourTaken (Ok tt)))
